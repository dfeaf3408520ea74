-- The entry that a call is about: the walk's 6 or 14, then the entry's 7.
use Rattle.std.specs.Prelude.{Result, Ok, Err}
use Rattle.base_rules.specs.Basics.{ℕ, Bool, true, List, eqb, ltb, choose, need, given, all_from, on_result}
use Rattle.base_units.specs.{Limits.between, Limits.table_entries, declared.address.Gpa.Gpa, declared.address.Pfn.Pfn}
use Rattle.book_ledger.specs.Codes.{INITIALIZED, FREE, NL_MAPPED, MAPPED, PENDING, NL_BLOCKED, BLOCKED, PENDING_BLOCKED}
use Rattle.book_ledger.specs.{Tables.Tables, Tables.frame_at, Tables.entry_at, Tables.slot, declared.words.Entry.Entry, declared.tables.Slot.Slot}
use Rattle.book_walk.specs.{Walk.walk_from, Walk.on_walk, Walk.Walk}
use Rattle.base_calls.specs.{declared.Refusal.Refusal, declared.Refusal.TheVariants.No, declared.Refusal.TheVariants.Stop, declared.Fault.Fault, Operands.NONE}
use Rattle.call_plan.specs.declared.lookup.Subject.{Subject}

-- "begin at the root", at its level
abbrev pub walk_of : Tables → Subject → Gpa → ℕ → Walk
walk_of t x gpa level = walk_from t.frames t.stock t.entries x.tdr gpa level x.top x.root

-- an entry and where it stands, or the refusal
abbrev pub Reach : Type 0
Reach = Result (Slot × Entry) Refusal

-- the entry's state from `least` to `most`
unfoldable pub entry_for : Tables → Subject → Gpa → ℕ → ℕ → ℕ → Reach
entry_for t x gpa level least most =
    on_walk (walk_of t x gpa level) (λ l s. Err (Stop Fault.Walk l s)) (Err (No Fault.Link NONE)) λ b i.
    given (entry_at t.entries b i) λ e.
    need (between least e.state most) (Err (Stop Fault.State level e.state))
    (Ok (slot b i, e))

abbrev pub on_reach : {A : Type 0} → Reach → (Refusal → A) → (ℕ → ℕ → Entry → A) → A
on_reach r z k = on_result r z λ q. k q.0.block q.0.index q.1

-- block: "entry 1, 2 or 3" to "entry 4, 5 or 6"; unblock: back
unfoldable pub blocked_state : ℕ → ℕ
blocked_state s = choose (eqb s NL_MAPPED) NL_BLOCKED (choose (eqb s MAPPED) BLOCKED PENDING_BLOCKED)

unfoldable pub unblocked_state : ℕ → ℕ
unblocked_state s = choose (eqb s NL_BLOCKED) NL_MAPPED (choose (eqb s BLOCKED) MAPPED PENDING)

-- "Tracked" means that the frame's epoch is below the domain's. Document 02, request 2: "true whenever the op state is initialized, otherwise as before".
unfoldable pub is_tracked : List ℕ → Pfn → Subject → Bool
is_tracked fs n x =
    choose (eqb x.dom.op INITIALIZED) true (
    given (frame_at fs n) λ f.
    ltb f.epoch x.dom.epoch)

-- "its 512 entries FREE"
unfoldable pub free_at : List ℕ → ℕ → ℕ → Bool
free_at es b i = given (entry_at es b i) λ e. eqb e.state FREE

unfoldable pub table_empty : List ℕ → ℕ → Bool
table_empty es b = all_from (free_at es b) 0 table_entries
