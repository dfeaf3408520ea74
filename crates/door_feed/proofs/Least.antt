-- The lesser of two numbers, as the library has it.
use Rattle.base_rules.specs.Basics.{◌≡◌, ℕ, min, leb}
use Rattle.base_rules.proofs.Facts.{arith, choose_both, leb-true, leb-false}
use Rattle.door_feed.specs.Bytes.{least}

pub min_least : (a b : ℕ) → min a b ≡ least a b
unfolding least
min_least a b = choose_both (λ m. min a b ≡ m) (leb a b) a b
    (λ q. let h = leb-true a b q in omega arith) (λ q. let h = leb-false a b q in omega arith)
