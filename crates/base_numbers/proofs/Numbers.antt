-- Reading a number: a turn of the loop over its digits, and its end.
use Rattle.std.specs.Char.{is_ascii_digit}
use Rattle.base_units.specs.Limits.{between}
use Rattle.base_rules.specs.Basics.{◌≡◌, Bool, true, false, not, List, [], ◌∷◌, ℕ, ◌+◌, ◌-◌, ◌*◌, ◌^◌, ◌<◌, ◌≤◌, length, get_or, drop, leb, choose}
use Rattle.base_rules.proofs.Facts.{refl, le_trans, arith, not-true, lt-leb, le-leb, drop_of_length-le, choose_both}
use Rattle.std.specs.Prelude.{Some, None}
use Rattle.base_numbers.specs.Number.{number_most, nought, is_digit, all_digits, value_from, number_from}
use Rattle.base_numbers.proofs.Lists.{next}

value_grows : (v : ℕ) (ds : List ℕ) → v ≤ value_from v ds
unfolding value_from
value_grows v [] = omega arith
value_grows v (d ∷ ds) = le_trans (omega arith) (value_grows (v * 10 + (d - nought)) ds)

too_big : (v : ℕ) (ds : List ℕ) → number_most < v → None ≡ number_from v ds
unfolding number_from choose
too_big v ds h = choose_both (λ n. None ≡ n) (all_digits ds) _ None
    (λ _. rw (lt-leb (value_from v ds) number_most (omega (arith, value_grows v ds)))) (λ _. refl)

-- what the loop over a field's digits keeps at i: v is what they spell so far
pub record Spelling (field : List ℕ) (v i : ℕ) : Type 0 where
  pub small : v ≤ number_most
  pub left : number_from 0 field ≡ number_from v (drop i field)

-- as the library tests a digit
told_digit : (b : ℕ) → is_digit b ≡ is_ascii_digit b
unfolding between choose
told_digit b = choose_both (λ t. t ≡ is_ascii_digit b) (leb nought b) (leb b (nought + 9)) false (λ q. rw q) (λ q. rw q)

-- r tells whether a digit stands at i
module _ {field : List ℕ} {v i : ℕ} {r : Bool} (s : Spelling field v i) (h : i < length field) (t : r ≡ is_ascii_digit (get_or field i 0)) where
  pub spelling_stop : not r ≡ true → None ≡ number_from 0 field
  unfolding number_from all_digits choose
  spelling_stop f = rw (s.left, next field i h, told_digit, ← t, not-true r f)

  more : {n : ℕ} → r ≡ true → n ≡ v * 10 + (get_or field i 0 - nought) → number_from 0 field ≡ number_from n (drop (i + 1) field)
  unfolding number_from all_digits value_from choose
  more f q = rw (s.left, next field i h, told_digit, ← t, f, q)

  pub spelling_over : r ≡ true → ¬ (v * 10 < 2 ^ 64) → None ≡ number_from 0 field
  spelling_over f g = rw (more f refl) (too_big _ _ (omega arith))

  pub spelling_over_by : {d n : ℕ} → r ≡ true → d ≡ get_or field i 0 - nought → n ≡ v * 10 → ¬ (n + d < 2 ^ 64) → None ≡ number_from 0 field
  spelling_over_by f q e g = rw (more f refl) (too_big _ _ (omega arith))

  pub spelling_more : {d n m : ℕ} → r ≡ true → d ≡ get_or field i 0 - nought → n ≡ v * 10 → n + d < 2 ^ 64 → m ≡ n + d → Spelling field m (i + 1)
  spelling_more f q e l g = record { small = omega arith; left = more f (omega arith) }

pub spelling_end : {field : List ℕ} {v i : ℕ} → Spelling field v i → length field ≤ i → Some v ≡ number_from 0 field
unfolding number_from all_digits value_from choose
spelling_end {field} {v} s h = rw (s.left, drop_of_length-le field h, le-leb v number_most s.small)
