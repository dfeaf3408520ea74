-- One step of the walk at any level, and the steps of a rule by the way a walk ended.
use Rattle.std.specs.Prelude.{Result, Ok, Err}
use Rattle.base_rules.specs.Basics.{◌≡◌, List, ℕ, zero, suc, ◌-◌, leb, choose, given}
use Rattle.base_rules.proofs.Facts.{refl, arith, leb·zero, if_true}
use Rattle.base_levels.specs.Level.{index_at}
use Rattle.base_units.specs.declared.address.{Pfn.Pfn, Gpa.Gpa}
use Rattle.book_ledger.specs.Tables.{entry_at, slot}
use Rattle.book_ledger.specs.declared.tables.Slot.{Slot}
use Rattle.book_walk.specs.Walk.{Walk, refusal_of, walk_from, through, on_walk}
use Rattle.base_calls.specs.{declared.Refusal.Refusal, declared.Refusal.TheVariants.No, declared.Refusal.TheVariants.Stop, declared.Fault.Fault, Operands.NONE}
use Rattle.book_walk.specs.declared.Stray.{Stray, TheVariants.Stopped, TheVariants.Foreign}

pub walk_step : (fs st es : List ℕ) (tdr : Pfn) (gpa : Gpa) (want level block : ℕ) → walk_from fs st es tdr gpa want level block
    ≡ given (index_at gpa level) λ i. choose (leb level want) (Ok (slot block i))
    (given (entry_at es block i) λ e. through fs st tdr level e (walk_from fs st es tdr gpa want (level - 1)))
unfolding walk_from given
walk_step fs st es tdr gpa want zero block = if_true _ (leb·zero want) refl
walk_step fs st es tdr gpa want (suc l) block = let e : suc l - 1 ≡ l = omega arith in rw e

-- a walk's answer r, which its contract gives as w, and the way that a match left
module _ {A : Type 0} {z : A} {r w : Walk} where
  pub walk_at : {p : Slot} (s : ℕ → ℕ → A) (f : A) (k : ℕ → ℕ → A) → r ≡ w → r ≡ Ok p → z ≡ k p.block p.index → z ≡ on_walk w s f k
  unfolding on_walk
  walk_at s f k e h g = rw (← e, h) g

  pub walk_foreign : {f : A} (s : ℕ → ℕ → A) (k : ℕ → ℕ → A) → r ≡ w → r ≡ Err Foreign → z ≡ f → z ≡ on_walk w s f k
  unfolding on_walk
  walk_foreign s k e h g = rw (← e, h) g

  pub walk_stopped : {l t : ℕ} (s : ℕ → ℕ → A) (f : A) (k : ℕ → ℕ → A) → r ≡ w → r ≡ Err (Stopped l t) → z ≡ s l t → z ≡ on_walk w s f k
  unfolding on_walk
  walk_stopped s f k e h g = rw (← e, h) g

-- the same where a `?` left: the walk's refusal is passed on
module _ {B : Type 0} {v : Result B Refusal} {r w : Walk} where
  pub walk_found : {at : Slot} (s : ℕ → ℕ → Result B Refusal) (f : Result B Refusal) (k : ℕ → ℕ → Result B Refusal) → r ≡ w → r ≡ Ok at
      → v ≡ k at.block at.index → v ≡ on_walk w s f k
  walk_found = walk_at

  pub walk_lost : {s : Stray} (k : ℕ → ℕ → Result B Refusal) → r ≡ w → r ≡ Err s → v ≡ Err (refusal_of s)
      → v ≡ on_walk w (λ l j. Err (Stop Fault.Walk l j)) (Err (No Fault.Link NONE)) k
  walk_lost {s = Stopped l j} k = walk_stopped (λ l j. Err (Stop Fault.Walk l j)) (Err (No Fault.Link NONE)) k
  walk_lost {s = Foreign} k = walk_foreign (λ l j. Err (Stop Fault.Walk l j)) k

pub ruleset walks = (walk_found, walk_lost)
