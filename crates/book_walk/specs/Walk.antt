-- Document 01, "Walk": "begin at the root with level 3. While above the level asked for, the entry must be NL_MAPPED and its frame an EPT
-- owned by D; go into that table, one level down." Over any number of levels: the caller says at which it begins.
use Rattle.std.specs.Prelude.{Result, Ok, Err}
use Rattle.base_rules.specs.Basics.{ℕ, zero, suc, Bool, false, List, eqb, leb, choose, implies, need, given}
use Rattle.base_levels.specs.Level.{index_at}
use Rattle.base_units.specs.declared.address.{Pfn.Pfn, Gpa.Gpa}
use Rattle.base_calls.specs.{declared.Refusal.Refusal, declared.Refusal.TheVariants.No, declared.Refusal.TheVariants.Stop, declared.Fault.Fault, Operands.NONE}
use Rattle.book_stock.specs.Bits.{in_use}
use Rattle.book_ledger.specs.{Codes.EPT, Codes.REG, Codes.NL_MAPPED, Codes.NL_BLOCKED, Tables.frame_at, Tables.entry_at, Tables.slot}
use Rattle.book_ledger.specs.declared.{words.Entry.Entry, tables.Slot.Slot}
use Rattle.book_walk.specs.declared.Stray.{Stray, TheVariants.Stopped, TheVariants.Foreign}

-- how a walk ends: at an entry's place, or astray
abbrev pub Walk : Type 0
Walk = Result Slot Stray

-- the walk's 6, with the level and the state where it ended, and its 14
abbrev pub refusal_of : Stray → Refusal
refusal_of (Stopped level state) = Stop Fault.Walk level state
refusal_of Foreign = No Fault.Link NONE

-- answer 14: "isn't its entry's type (EPT for states 1 and 4, else REG)"
unfoldable pub entry_type : ℕ → ℕ
entry_type state = choose (eqb state NL_MAPPED) EPT (choose (eqb state NL_BLOCKED) EPT REG)

-- answer 14: "a frame followed, blocked, unblocked or removed isn't D's or isn't its entry's type [..] or such an EPT's table is unused"
unfoldable pub own_frame : List ℕ → List ℕ → Pfn → Entry → Bool
own_frame fs st tdr e =
    given (frame_at fs e.frame) λ f.
    given (entry_type e.state) λ type.
    need (eqb f.kind type) false (
    need (eqb f.owner.0 tdr.0) false (
    implies (eqb f.kind EPT)
    (in_use st f.number)))

-- one step above the level asked for: the state's 6, then the frame's 14
abbrev pub through : List ℕ → List ℕ → Pfn → ℕ → Entry → (ℕ → Walk) → Walk
through fs st tdr level e next =
    need (eqb e.state NL_MAPPED) (Err (Stopped level e.state)) (
    need (own_frame fs st tdr e) (Err Foreign) (
    given (frame_at fs e.frame) λ f.
    next f.number))

module _ (fs st es : List ℕ) (tdr : Pfn) (gpa : Gpa) (want : ℕ) where
  unfoldable pub walk_from : ℕ → ℕ → Walk
  walk_from zero block = Ok (slot block (index_at gpa zero))
  walk_from (suc l) block =
      choose (leb (suc l) want) (Ok (slot block (index_at gpa (suc l))))
      (given (entry_at es block (index_at gpa (suc l))) λ e.
      through fs st tdr (suc l) e (walk_from l))

-- by the way a walk ends
unfoldable pub on_walk : {A : Type 0} → Walk → (ℕ → ℕ → A) → A → (ℕ → ℕ → A) → A
on_walk (Err (Stopped l s)) stopped foreign at = stopped l s
on_walk (Err Foreign) stopped foreign at = foreign
on_walk (Ok p) stopped foreign at = at p.block p.index
