-- A number with a single one bit is a power of two. A window's frames are, with an exponent between its limits.
use Rattle.base_rules.specs.Basics.{◌≡◌, true, ℕ, zero, suc, ◌/◌, ◌%◌, ◌^◌, ◌≤◌, ◌<◌, choose}
use Rattle.base_rules.proofs.Facts.{zero-le, eq-or-lt_of_le, le_refl, lt_of_lt_of_le, lt_of_le_of_lt, lt_of_not-le, lt_irrefl, one-mul, add-zero}
use Rattle.base_rules.proofs.Facts.{le_of_suc-le-suc, arith, ⊎_elim, pow_pos, pow_mono, pow-lt, eqb-true, leb-true, le-leb, both_left, both_right}
use lib.Count.{ones, ones_step, ones_cat}
use Rattle.base_units.specs.Limits.{between, frames_ok, least_exponent, most_exponent}

none_set : (d n : ℕ) → n ≤ d → ones n ≡ 0 → n ≡ 0
none_set zero n h e = omega arith
none_set (suc d) n h e = let s = ones_step n in let z : n / 2 ≡ 0 = none_set d (n / 2) (omega arith) (omega arith) in omega arith

one_set : (d n : ℕ) → n ≤ d → ones n ≡ 1 → (k : ℕ) × (n ≡ 2 ^ k)
unfolding ones
one_set zero n h e = let z : n ≡ 0 = omega arith in absurd (omega (arith, rw z at e))
one_set (suc d) n h e = let s = ones_step n in ⊎_elim
    (λ (q : 0 ≡ n % 2). let i = one_set d (n / 2) (omega arith) (omega arith) in let w = i.1 in (suc i.0, omega arith))
    (λ (q : 0 < n % 2). let z : n / 2 ≡ 0 = none_set d (n / 2) (omega arith) (omega arith) in (0, omega arith))
    (eq-or-lt_of_le zero-le)

ones_of_power : (k : ℕ) → ones (2 ^ k) ≡ 1
unfolding ones
ones_of_power k = rw (one-mul, add-zero) at (ones_cat k 1 0 (pow_pos k))

-- a power's exponent from a bound on the power
pub exponent_lt : (i p : ℕ) → 2 ^ i < 2 ^ p → i < p
exponent_lt i p h = lt_of_not-le (λ (g : p ≤ i). lt_irrefl (2 ^ i) (lt_of_lt_of_le h (pow_mono g)))

exponent_le : (i p : ℕ) → 2 ^ i ≤ 2 ^ p → i ≤ p
exponent_le i p h = le_of_suc-le-suc (exponent_lt i (suc p) (lt_of_le_of_lt h (pow-lt (le_refl (suc p)))))

-- a window's frame counts are these and no others
pub frames_power : (n : ℕ) → frames_ok n ≡ true → (k : ℕ) × (least_exponent ≤ k) × (k ≤ most_exponent) × (n ≡ 2 ^ k)
unfolding frames_ok between
frames_power n e =
    let p = one_set n n (le_refl n) (eqb-true _ _ (both_left _ _ e)) in
    let lo : 2 ^ least_exponent ≤ n = leb-true _ _ (both_left _ _ (both_right _ _ e)) in
    let hi : n ≤ 2 ^ most_exponent = leb-true _ _ (both_right _ _ (both_right _ _ e)) in
    (p.0, exponent_le least_exponent p.0 (rw p.1 at lo), exponent_le p.0 most_exponent (rw p.1 at hi), p.1)

pub power_frames : (k : ℕ) → least_exponent ≤ k → k ≤ most_exponent → frames_ok (2 ^ k) ≡ true
unfolding frames_ok between choose
power_frames k lo hi = rw (ones_of_power, le-leb _ _ (pow_mono {i = least_exponent} lo), le-leb _ _ (pow_mono {j = most_exponent} hi))
