-- Laws of the k numbers from i on: a turn of a loop, its end, and what a passed test says at each number.
use mathlib.Core.Path.{◌≡◌, refl}
use mathlib.Core.Bool.{Bool, true, false, not}
use mathlib.Core.Logic.{⊎_elim}
use Prim.Native.Nat.{ℕ, zero, suc, ◌+◌, ◌-◌, ◌<◌, ◌≤◌}
use native.Mathlib.Nat.{eq-or-lt_of_le, sub-zero}
use native.Mathlib.Omega.{arith}
use borrow.Author.Tests.{not-true, not-false}
use Rattle.base_rules.specs.Rule.{choose}
use Rattle.base_rules.specs.Upto.{all_from, any_from, sum_from}
use Rattle.base_rules.proofs.Steps.{choose_both, both_left, both_right}

module _ (p : ℕ → Bool) where
  pub all_step : (n i : ℕ) → i < n → all_from p i (n - i) ≡ choose (p i) (all_from p (i + 1) (n - (i + 1))) false
  unfolding all_from
  all_step n i h = let e : n - i ≡ suc (n - (i + 1)) = omega arith in rw e

  pub all_end : (n i : ℕ) → n ≤ i → all_from p i (n - i) ≡ true
  unfolding all_from
  all_end n i h = let e : n - i ≡ 0 = omega arith in rw e

  -- what a loop over the numbers below n keeps, at i: the test t of all is that of those from i on
  abbrev pub Passed : Bool → ℕ → ℕ → Type 0
  Passed t n i = (i ≤ n) × (t ≡ all_from p i (n - i))

  pub all_start : {t : Bool} (n : ℕ) → t ≡ all_from p 0 n → Passed t n 0
  all_start n e = (omega arith, rw sub-zero e)

  -- a turn asks r, the test of i: the loop leaves with false, goes on, or ends
  pub all_stop : {n i : ℕ} {r t : Bool} → t ≡ all_from p i (n - i) → i < n → r ≡ p i → not r ≡ true → false ≡ t
  unfolding choose
  all_stop {n} {i} {r} {t} e h a b = rw (e, all_step n i h, ← a, not-true r b)

  pub all_next : {n i : ℕ} {r t : Bool} → t ≡ all_from p i (n - i) → i < n → r ≡ p i → not r ≡ false → t ≡ all_from p (i + 1) (n - (i + 1))
  unfolding choose
  all_next {n} {i} {r} {t} e h a b = rw (e, all_step n i h, ← a, not-false r b)

  pub all_done : {n i : ℕ} {t : Bool} → t ≡ all_from p i (n - i) → n ≤ i → true ≡ t
  all_done {n} {i} {t} e h = rw (e, all_end n i h)

  pub at_from : (k i j : ℕ) → all_from p i k ≡ true → i ≤ j → j < i + k → p j ≡ true
  unfolding all_from
  at_from zero i j e h l = let z : ◌≡◌ {A = ℕ} 0 1 = omega arith in cc
  at_from (suc k) i j e h l = ⊎_elim
      (λ (q : i ≡ j). rw q at (both_left _ _ e))
      (λ (q : i < j). at_from k (i + 1) j (both_right _ _ e) (omega arith) (omega arith))
      (eq-or-lt_of_le h)

  pub all_at : (n : ℕ) → all_from p 0 n ≡ true → (j : ℕ) → j < n → p j ≡ true
  all_at n e j h = at_from n 0 j e (omega arith) (omega arith)

module _ (g : ℕ → ℕ) where
  pub sum_step : (n i : ℕ) → i < n → sum_from g i (n - i) ≡ g i + sum_from g (i + 1) (n - (i + 1))
  unfolding sum_from
  sum_step n i h = let e : n - i ≡ suc (n - (i + 1)) = omega arith in rw e

  pub sum_end : (n i : ℕ) → n ≤ i → sum_from g i (n - i) ≡ 0
  unfolding sum_from
  sum_end n i h = let e : n - i ≡ 0 = omega arith in rw e

pub ruleset alls = (all_stop, all_next, all_done)

some_left : (t r : Bool) → t ≡ true → choose t true r ≡ true
unfolding choose
some_left t r e = rw e

some_right : (t r : Bool) → r ≡ true → choose t true r ≡ true
unfolding choose
some_right true r e = refl
some_right false r e = e

module _ (p : ℕ → Bool) where
  from_at : (k i j : ℕ) → p j ≡ true → i ≤ j → j < i + k → any_from p i k ≡ true
  unfolding any_from
  from_at zero i j e h l = let z : ◌≡◌ {A = ℕ} 0 1 = omega arith in cc
  from_at (suc k) i j e h l = ⊎_elim
      (λ (q : i ≡ j). some_left _ _ (rw q e))
      (λ (q : i < j). some_right _ _ (from_at k (i + 1) j e (omega arith) (omega arith)))
      (eq-or-lt_of_le h)

  from_any : (k i : ℕ) → any_from p i k ≡ true → (j : ℕ) × (j < i + k) × (p j ≡ true)
  unfolding any_from
  from_any zero i e = absurd (let z : ◌≡◌ {A = ℕ} 0 1 = cc in omega arith)
  from_any (suc k) i e = choose_both (λ (t : Bool). t ≡ true → (j : ℕ) × (j < i + suc k) × (p j ≡ true)) (p i) true (any_from p (i + 1) k)
      (λ h r. (i, omega arith, h))
      (λ h r. let w = from_any k (i + 1) r in (w.0, omega arith, w.2))
      e

  -- a test of some passes where it passes at one number, and only there
  pub any_at : (n j : ℕ) → j < n → p j ≡ true → any_from p 0 n ≡ true
  any_at n j h e = from_at n 0 j e (omega arith) (omega arith)

  pub at_any : (n : ℕ) → any_from p 0 n ≡ true → (j : ℕ) × (j < n) × (p j ≡ true)
  at_any n e = let w = from_any n 0 e in (w.0, omega arith, w.2)
