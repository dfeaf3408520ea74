-- The k numbers from i on: a test of all, a test of some, a sum.
use Rattle.std.specs.Prelude.{ℕ, zero, suc, ◌+◌, Bool, true, false}
use Rattle.base_rules.specs.Rule.{choose}

module _ (p : ℕ → Bool) where
  unfoldable pub all_from : ℕ → ℕ → Bool
  all_from i zero = true
  all_from i (suc k) = choose (p i) (all_from (i + 1) k) false

  unfoldable pub any_from : ℕ → ℕ → Bool
  any_from i zero = false
  any_from i (suc k) = choose (p i) true (any_from (i + 1) k)

module _ (g : ℕ → ℕ) where
  unfoldable pub sum_from : ℕ → ℕ → ℕ
  sum_from i zero = 0
  sum_from i (suc k) = g i + sum_from (i + 1) k
