-- Laws of bit k of a number w: set where it is clear, and taken off where it is set.
use Rattle.base_rules.specs.Basics.{◌≡◌, Bool, true, false, ℕ, suc, ◌+◌, ◌-◌, ◌*◌, ◌/◌, ◌%◌, ◌^◌, ◌<◌, ◌≤◌, eqb, choose}
use Rattle.base_rules.proofs.Facts.{refl, sym, ap, pow-succ', le-div_iff_mul-le, div-lt_iff_lt-mul, div-eq-sub-div, div-eq_of_lt, add-div_right, by_lt}
use Rattle.base_rules.proofs.Facts.{add-mul-div_left, arith, pow_pos, pow-add, shr-shr, eqb-true, eqb-false, eq-eqb, ne_eqb, choose_both}
use Rattle.base_units.proofs.Shifts.{one_shl}
use Rattle.book_stock.specs.Bits.{bit_set, with_bit}

-- by cases
abbrev pub bit : ℕ → ℕ → ℕ
bit w k = w / 2 ^ k % 2

-- a clear bit k, set: what stands above it stays
above : (k n w : ℕ) → k < n → bit w k ≡ 0 → (w + 2 ^ k) / 2 ^ n ≡ w / 2 ^ n
above k n w l e =
    let q : n ≡ k + 1 + (n - (k + 1)) = omega arith in
    let h : (w + 2 ^ k) / 2 ^ k / 2 ≡ w / 2 ^ k / 2 = omega (arith, add-div_right w (pow_pos k)) in
    rw q (simp (← shr-shr, h))

-- a clear bit below n, set, keeps the number below 2 ^ n
pub room : (n k w : ℕ) → k < n → w < 2 ^ n → bit w k ≡ 0 → w + 2 ^ k < 2 ^ n
room n k w h l e = omega (arith, (div-lt_iff_lt-mul {x = w + 2 ^ k} {y = 1} (pow_pos n)).0 (omega (arith, above k n w h e, div-eq_of_lt l)))

-- a clear bit, set, leaves the others
others : (k j w : ℕ) → bit w k ≡ 0 → (j ≡ k → ⊥) → bit (w + 2 ^ k) j ≡ bit w j
others k j w e d =
    by_lt j k
    (λ l. let q : k ≡ j + suc (k - suc j) = omega arith in rw (q, pow-add, pow-succ', add-mul-div_left w _ (pow_pos j)) (omega arith))
    (λ l. rw (above k j w (omega arith) e))

pub shl_bit : (b : ℕ) → 1 * 2 ^ (b % 64) % 18446744073709551616 ≡ 2 ^ (b % 64)
shl_bit b = one_shl (b % 64) (omega arith)

module _ (w k : ℕ) where
  pub clear_of_lt : w < 2 ^ k → bit_set w k ≡ false
  unfolding bit_set
  clear_of_lt h = ne_eqb (bit w k) 1 (λ e. omega (arith, div-eq_of_lt h))

  pub set_le : bit w k ≡ 1 → 2 ^ k ≤ w
  set_le e = omega (arith, (le-div_iff_mul-le {x = 1} {y = w} (pow_pos k)).0 (omega arith))

  less : bit w k ≡ 1 → bit (w - 2 ^ k) k ≡ 0
  less e = omega (arith, div-eq-sub-div (pow_pos k) (set_le e))

  pub with_same : (on : Bool) → bit_set (with_bit w k on) k ≡ on
  unfolding with_bit choose bit_set
  with_same true = choose_both (λ (x : ℕ). bit_set x k ≡ true) (bit_set w k) w (w + 2 ^ k) (λ e. e)
      (λ e. eq-eqb (bit (w + 2 ^ k) k) 1 (omega (arith, add-div_right w (pow_pos k), eqb-false (bit w k) 1 e)))
  with_same false = choose_both (λ (x : ℕ). bit_set x k ≡ false) (bit_set w k) (w - 2 ^ k) w
      (λ e. ne_eqb (bit (w - 2 ^ k) k) 1 (λ q. omega (arith, less (eqb-true _ _ e)))) (λ e. e)

  pub with_other : (j : ℕ) (on : Bool) → (j ≡ k → ⊥) → bit_set (with_bit w k on) j ≡ bit_set w j
  unfolding with_bit choose bit_set
  with_other j true d = choose_both (λ (x : ℕ). bit_set x j ≡ bit_set w j) (bit_set w k) w (w + 2 ^ k) (λ e. refl)
      (λ e. rw (others k j w (omega (arith, eqb-false (bit w k) 1 e)) d))
  with_other j false d = choose_both (λ (x : ℕ). bit_set x j ≡ bit_set w j) (bit_set w k) (w - 2 ^ k) w
      (λ e. let h : bit w k ≡ 1 = eqb-true _ _ e in let q : w - 2 ^ k + 2 ^ k ≡ w = omega (arith, set_le h) in
      sym (rw q at (ap (λ (x : ℕ). eqb x 1) (others k j (w - 2 ^ k) (less h) d))))
      (λ e. refl)
