-- Document 01, "The script": "Numbers: decimal, no sign, no leading zero but 0 itself, at most 2^64 - 1."
use Rattle.std.specs.Prelude.{ℕ, zero, suc, ◌+◌, ◌-◌, ◌*◌, ◌/◌, ◌%◌, ◌^◌, Bool, true, false, List, [], ◌∷◌, ◌++◌, eqb, ltb, leb, length, get_or, Option, Some, None}
use Rattle.base_rules.specs.Basics.{choose, need}
use Rattle.base_units.specs.Limits.{between}

abbrev pub number_most : ℕ
number_most = 2 ^ 64 - 1

-- the bytes of the digits: "0" is 48, "9" is 57
abbrev pub nought : ℕ
nought = 48

abbrev pub is_digit : ℕ → Bool
is_digit b = between nought b (nought + 9)

unfoldable pub all_digits : List ℕ → Bool
all_digits [] = true
all_digits (d ∷ ds) = choose (is_digit d) (all_digits ds) false

-- the number that the digits spell, after those that spell v
unfoldable pub value_from : ℕ → List ℕ → ℕ
value_from v [] = v
value_from v (d ∷ ds) = value_from (v * 10 + (d - nought)) ds

-- "decimal, [..] at most 2^64 - 1", after digits that spell v
unfoldable pub number_from : ℕ → List ℕ → Option ℕ
number_from v ds =
    need (all_digits ds) None (
    need (leb (value_from v ds) number_most) None
    (Some (value_from v ds)))

-- "no leading zero but 0 itself"
unfoldable pub number_read : List ℕ → Option ℕ
number_read field =
    choose (eqb (length field) 0) None (
    choose (eqb (get_or field 0 0) nought) (need (eqb (length field) 1) None (Some 0))
    (number_from 0 field))

-- a number's digits, in at most k divisions by ten
unfoldable pub digits_by : ℕ → ℕ → List ℕ
digits_by zero n = (nought + n) ∷ []
digits_by (suc k) n = choose (ltb n 10) ((nought + n) ∷ []) (digits_by k (n / 10) ++ ((nought + n % 10) ∷ []))

-- how a number is written; n divisions are always enough
abbrev pub decimal : ℕ → List ℕ
decimal n = digits_by n n
