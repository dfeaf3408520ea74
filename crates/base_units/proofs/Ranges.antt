-- What the library's `contains` answers at a range of numbers, both ends included.
use Rattle.std.proofs.Common.{is_le}
use Rattle.std.specs.Ordering.{nat_cmp}
use Rattle.base_rules.specs.Basics.{◌≡◌, Bool, true, false, ◌&&◌, ℕ, leb, choose}
use Rattle.base_rules.proofs.Facts.{refl, ap₂, ◌∙◌, arith}
use Rattle.std.proofs.lemmas.Bool.Decides.{nat_tests}
use Rattle.base_units.specs.Limits.{between}

cmp_le : (a b : ℕ) → is_le (nat_cmp a b) ≡ leb a b
cmp_le a b = grind (arith, nat_tests)

and_choose : (s t : Bool) → (s && t) ≡ choose s t false
unfolding choose
and_choose true t = refl
and_choose false t = refl

pub range_between : (a n b : ℕ) → (is_le (nat_cmp a n) && is_le (nat_cmp n b)) ≡ between a n b
unfolding between
range_between a n b = ap₂ (λ (s t : Bool). s && t) (cmp_le a n) (cmp_le n b) ∙ and_choose (leb a n) (leb n b)
