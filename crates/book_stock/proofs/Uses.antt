-- Laws of the in-use bits, for callers: read after write, at the block and at another, and the spare bits.
use Rattle.base_rules.specs.Basics.{◌≡◌, Bool, true, false, List, ℕ, ◌+◌, ◌/◌, ◌%◌, ◌^◌, ◌<◌, ◌≤◌, length, get_or}
use Rattle.base_rules.proofs.Facts.{arith, length-set, List·getD-eq-default, pow_pos, pow_mono, get_or-set_same, get_or-set_other, set_out, ltb-true, by_eq, by_lt}
use Rattle.book_stock.specs.Bits.{word_bits, word_of, in_use, set_use, spare_clear}
use Rattle.book_stock.proofs.Bit.{clear_of_lt, with_same, with_other}

module _ (ws : List ℕ) (b : ℕ) (on : Bool) where
  pub use_length : length (set_use ws b on) ≡ length ws
  unfolding set_use
  use_length = simp length-set

  pub use_same : b / word_bits < length ws → in_use (set_use ws b on) b ≡ on
  unfolding in_use set_use word_of
  use_same h = rw (get_or-set_same ws (b / word_bits) _ 0 h) (with_same _ (b % word_bits) on)

  pub use_other : (j : ℕ) → (j ≡ b → ⊥) → in_use (set_use ws b on) j ≡ in_use ws j
  unfolding in_use set_use word_of
  use_other j d =
      by_lt (b / word_bits) (length ws)
      (λ l. by_eq (j / word_bits) (b / word_bits)
      (λ q. rw (q, get_or-set_same ws (b / word_bits) _ 0 l) (with_other _ (b % word_bits) (j % word_bits) on (λ r. d (omega arith))))
      (λ q. rw (get_or-set_other ws (b / word_bits) (j / word_bits) _ 0 q)))
      (λ l. rw (set_out ws (b / word_bits) _ l))

-- with the spare bits clear, and no word past them, nothing from n on is in use
pub spare_unused : (ws : List ℕ) (n : ℕ) → spare_clear ws n ≡ true → length ws ≤ n / word_bits + 1 → (b : ℕ) → n ≤ b → in_use ws b ≡ false
unfolding in_use spare_clear word_of
spare_unused ws n e h b l =
    clear_of_lt (get_or ws (b / word_bits) 0) (b % word_bits)
    (by_eq (b / word_bits) (n / word_bits)
    (λ q. rw q (omega (arith, ltb-true (get_or ws (n / word_bits) 0) (2 ^ (n % word_bits)) e, pow_mono {i = n % word_bits} {j = b % word_bits} (omega arith))))
    (λ q. rw (List·getD-eq-default {A = ℕ} ws 0 {n = b / word_bits} (omega arith)) (pow_pos (b % word_bits))))
