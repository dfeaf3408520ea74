-- One step down a rule by `a != b` of two addresses, whose answer r its contract gives as the test that the rule asks, turned over.
use Rattle.base_rules.specs.Basics.{◌≡◌, Bool, true, false, not, choose}
use Rattle.base_rules.proofs.Facts.{sym, ◌∙◌, not-true, not-false}

module _ {A : Type 0} {z : A} {r : Bool} (t : Bool) where
  pub differs_true : {y : A} (x : A) → r ≡ not t → r ≡ true → z ≡ y → z ≡ choose t x y
  unfolding choose
  differs_true x e h k = rw (not-true t (sym e ∙ h)) k

  pub differs_false : {x : A} (y : A) → r ≡ not t → r ≡ false → z ≡ x → z ≡ choose t x y
  unfolding choose
  differs_false y e h k = rw (not-false t (sym e ∙ h)) k

pub ruleset differs = (differs_true, differs_false)
