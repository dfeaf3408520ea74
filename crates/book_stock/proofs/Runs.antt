-- Laws of the ones at the low end of a number, and of the stretch of blocks in use that they are.
use Rattle.base_rules.specs.Basics.{◌≡◌, true, false, List, ℕ, zero, suc, ◌+◌, ◌-◌, ◌/◌, ◌%◌, ◌^◌, ◌<◌, ◌≤◌, eqb, choose}
use Rattle.base_rules.proofs.Facts.{arith, pow-succ', pow_pos, pow_mono, shr-shr, eq-eqb, ne_eqb, by_eq, by_lt, add-zero, zero-add, add_assoc}
use native.Mathlib.Nat.{div-le_self}
use lib.Count.{count_trailing_zeros, trailing_le}
use Rattle.std.specs.Prelude.{Some, None}
use Rattle.book_stock.specs.Bits.{word_bits, word_of, bit_set, in_use, lowest_from}
use Rattle.book_stock.proofs.Bit.{bit, set_le}

-- x with each of its k digits turned over
abbrev turned : ℕ → ℕ → ℕ
turned k x = 2 ^ k - 1 - x

-- one digit of it: below a zero of x nothing is counted
lowest_digit : (k x : ℕ) → x < 2 ^ suc k
    → count_trailing_zeros (suc k) (turned (suc k) x) ≡ choose (eqb (x % 2) 1) (suc (count_trailing_zeros k (turned k (x / 2)))) 0
unfolding count_trailing_zeros choose
lowest_digit k x h =
    let half : turned (suc k) x / 2 ≡ turned k (x / 2) = omega (arith, pow-succ' 2 k, pow_pos k) in
    by_eq (x % 2) 1
    (λ o. let d : turned (suc k) x % 2 ≡ 0 = omega (arith, pow-succ' 2 k, pow_pos k) in rw (d, half, eq-eqb (x % 2) 1 o))
    (λ o. let d : turned (suc k) x % 2 ≡ 1 = omega (arith, pow-succ' 2 k, pow_pos k) in rw (d, ne_eqb (x % 2) 1 o))

-- what is counted are ones of x
odd : (k x j : ℕ) → x < 2 ^ suc k → j < count_trailing_zeros (suc k) (turned (suc k) x) → (x % 2 ≡ 1) × (j ≤ count_trailing_zeros k (turned k (x / 2)))
unfolding choose
odd k x j h l = by_eq (x % 2) 1
    (λ o. (o, omega (arith, rw (lowest_digit k x h, eq-eqb (x % 2) 1 o) at l)))
    (λ o. absurd (omega (arith, rw (lowest_digit k x h, ne_eqb (x % 2) 1 o) at l)))

low_ones : (k x j : ℕ) → x < 2 ^ k → j < count_trailing_zeros k (turned k x) → bit x j ≡ 1
unfolding count_trailing_zeros
low_ones zero x j h l = absurd (omega arith)
low_ones (suc k) x zero h l = omega (arith, (odd k x zero h l).0)
low_ones (suc k) x (suc j) h l =
    let e : suc j ≡ 1 + j = omega arith in
    rw (e, ← shr-shr x 1 j) (low_ones k (x / 2) j (omega (arith, pow-succ' 2 k)) (omega (arith, (odd k x (suc j) h l).1)))

-- where nothing is, x is even
even : (k x : ℕ) → x < 2 ^ suc k → count_trailing_zeros (suc k) (turned (suc k) x) ≡ 0 → x % 2 ≡ 0
unfolding choose
even k x h z = by_eq (x % 2) 1 (λ o. absurd (omega (arith, rw (lowest_digit k x h, eq-eqb (x % 2) 1 o) at z))) (λ o. omega arith)

-- ---- for the code: the ones of a word w from a block's bit on are blocks in use
pub rest_fits : (w k : ℕ) → w < 2 ^ 64 → w / 2 ^ k ≤ 2 ^ 64 - 1
rest_fits w k h = omega (arith, div-le_self w (2 ^ k))

pub run_fits : (x : ℕ) → count_trailing_zeros 64 x < 2 ^ 64
run_fits x = omega (arith, trailing_le 64 x)

module _ (ws : List ℕ) (b w : ℕ) (e : w ≡ word_of ws b) (h : w < 2 ^ 64) where
  abbrev rest : ℕ
  rest = w / 2 ^ (b % word_bits)

  small : rest < 2 ^ 64
  small = omega (arith, rest_fits w (b % word_bits) h)

  pub run_used : (j : ℕ) → j < count_trailing_zeros 64 (turned 64 rest) → in_use ws (b + j) ≡ true
  unfolding in_use word_of bit_set
  run_used j l =
      let o : bit w (b % word_bits + j) ≡ 1 = rw shr-shr at (low_ones 64 rest j small l) in
      let in-word : b % word_bits + j < word_bits = by_lt (b % word_bits + j) word_bits (λ q. q)
      (λ q. absurd (omega (arith, set_le w (b % word_bits + j) o, pow_mono {i = word_bits} {j = b % word_bits + j} q))) in
      let q : (b + j) / word_bits ≡ b / word_bits = omega arith in
      let r : (b + j) % word_bits ≡ b % word_bits + j = omega arith in
      rw (q, r, ← e) (eq-eqb _ 1 o)

  pub run_ends : count_trailing_zeros 64 (turned 64 rest) ≡ 0 → in_use ws b ≡ false
  unfolding in_use bit_set
  run_ends z = rw (← e) (ne_eqb (rest % 2) 1 (λ q. omega (arith, even 63 rest small z)))

-- ---- a turn of the scan: the lowest unused block stands behind a stretch in use, unless the stretch goes on to the end
module _ (ws : List ℕ) where
  abbrev Stretch : ℕ → ℕ → Type 0
  Stretch b k = (j : ℕ) → j < k → in_use ws (b + j) ≡ true

  past : (k b n : ℕ) → Stretch b k → lowest_from ws b (k + n) ≡ lowest_from ws (b + k) n
  unfolding lowest_from choose
  past zero b n u = rw (add-zero b, zero-add n)
  past (suc k) b n u =
      let e : suc k + n ≡ suc (k + n) = omega arith in
      let f : b + suc k ≡ b + 1 + k = omega arith in
      rw (e, f, rw (add-zero b) at (u 0 (omega arith))) (past k (b + 1) n (λ j l. rw add_assoc (u (1 + j) (omega arith))))

  module _ (to b : ℕ) where
    pub turn_past : (k : ℕ) → k < to - b → Stretch b k → lowest_from ws b (to - b) ≡ lowest_from ws (b + k) (to - (b + k))
    turn_past k h u = let e : to - b ≡ k + (to - (b + k)) = omega arith in rw e (past k b (to - (b + k)) u)

    pub turn_end : (k : ℕ) → to - b ≤ k → Stretch b k → lowest_from ws b (to - b) ≡ None
    unfolding lowest_from
    turn_end k h u = let e : to - b ≡ to - b + 0 = omega arith in rw e (past (to - b) b 0 (λ j l. u j (omega arith)))

    pub turn_at : b < to → in_use ws b ≡ false → lowest_from ws b (to - b) ≡ Some b
    unfolding lowest_from choose
    turn_at h u = let e : to - b ≡ suc (to - (b + 1)) = omega arith in rw (e, u)

    pub turn_done : to ≤ b → lowest_from ws b (to - b) ≡ None
    turn_done h = turn_end 0 (omega arith) (λ j l. absurd (omega arith))
