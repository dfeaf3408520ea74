-- An answer is a refusal exactly where its number isn't 0.
use Rattle.std.proofs.Common.{◌≡◌, ℕ, ◌<◌, Bool, true, false, Ok, Err, is_err, refl, arith}
use Rattle.base_rules.specs.Rule.{choose}
use Rattle.base_rules.proofs.Facts.{eq-eqb, ne_eqb}
use Rattle.base_rules.proofs.Steps.{if_true, if_false}
use Rattle.std.specs.Prelude.{eqb}
use Rattle.base_calls.specs.declared.{Fault.Fault, Reading.TheVariants.Done, Reading.TheVariants.Page, Reading.TheVariants.Entry}
use Rattle.base_calls.specs.declared.Refusal.{TheVariants.No, TheVariants.Stop}
use Rattle.base_calls.specs.Answers.{Answer, number_of_fault, values_of}

fault_counts : (w : Fault) → 0 < number_of_fault w
fault_counts (Fault.Operand) = omega arith
fault_counts (Fault.Kind) = omega arith
fault_counts (Fault.Life) = omega arith
fault_counts (Fault.Pages) = omega arith
fault_counts (Fault.OpState) = omega arith
fault_counts (Fault.Walk) = omega arith
fault_counts (Fault.State) = omega arith
fault_counts (Fault.Untracked) = omega arith
fault_counts (Fault.Remains) = omega arith
fault_counts (Fault.Key) = omega arith
fault_counts (Fault.Stock) = omega arith
fault_counts (Fault.Epoch) = omega arith
fault_counts (Fault.Range) = omega arith
fault_counts (Fault.Link) = omega arith
fault_counts (Fault.Unreadable) = omega arith

refused_number : (a : Answer) → is_err a ≡ true → 0 < (values_of a).number
unfolding values_of
refused_number (Ok r) e = absurd (cc)
refused_number (Err (No w k)) e = fault_counts w
refused_number (Err (Stop w l s)) e = fault_counts w

accepted_number : (a : Answer) → is_err a ≡ false → (values_of a).number ≡ 0
unfolding values_of
accepted_number (Ok Done) e = refl
accepted_number (Ok (Page k o)) e = refl
accepted_number (Ok (Entry l s h)) e = refl
accepted_number (Err r) e = absurd (cc)

-- for callers: what `is_err` told, down a rule that asks for number 0
module _ {A : Type 0} {z : A} {r : Bool} (a : Answer) where
  pub if_refused : {y : A} (x : A) → r ≡ is_err a → r ≡ true → z ≡ y → z ≡ choose (eqb (values_of a).number 0) x y
  if_refused x e h g = if_false x (ne_eqb _ _ (λ n. let p : 0 < (values_of a).number = refused_number a (rw (← e) h) in omega arith)) g

  pub if_accepted : {x : A} (y : A) → r ≡ is_err a → r ≡ false → z ≡ x → z ≡ choose (eqb (values_of a).number 0) x y
  if_accepted y e h g = if_true y (eq-eqb _ _ (accepted_number a (rw (← e) h))) g
