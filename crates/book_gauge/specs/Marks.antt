-- Which floats are marks, and which two marks are in rule.
use Rattle.std.specs.Prelude.{◌≡◌, Bool, true, false, not, ℕ, ◌+◌, ◌≤◌, ◌<◌, eqb, leb}
use Rattle.base_rules.specs.Basics.{need, given, any_from}
use lib.{IntN.pos, Ieee.Float, Ieee.fin, Ieee.binary64, Ieee.is_nan, Ieee.to_bits, Ieee.to_unsigned, Ieee.of_int, Ieee.mul, Ieee.le, Ieee.lt}
use Rattle.base_units.specs.Limits.{frames_ok}
use Rattle.book_gauge.specs.Fill.{ratio}

-- "bit for bit": no NaN, and the same 64 bits
unfoldable pub same_bits : Float → Float → Bool
same_bits x y =
    need (not (is_nan x)) false (
    need (not (is_nan y)) false
    (eqb (to_bits binary64 x) (to_bits binary64 y)))

-- "bit for bit some k divided by the frames, k from 0 to the frames, sign bit clear". A ratio's sign bit is clear (`sign_no_mark` of proofs/Laws).
unfoldable pub is_mark : Float → ℕ → Bool
is_mark x n = need (frames_ok n) false (any_from (λ (k : ℕ). same_bits x (ratio k n)) 0 (n + 1))

abbrev pub zero_mark : Float
zero_mark = fin false 0 (pos 0)

-- "A mark must be ..., clear mark at most the raise mark, raise mark above zero"
unfoldable pub marks_ok : Float → Float → ℕ → Bool
marks_ok raise clear n =
    need (is_mark raise n) false (
    need (is_mark clear n) false (
    need (le clear raise) false
    (lt zero_mark raise)))

-- a float cut to a whole number; 0 where that is none from 0 to n
unfoldable pub cut_to : ℕ → Float → ℕ
cut_to n y =
    need (lt (fin true 1 (pos 0)) y) 0 (
    need (lt y (fin false 1 (pos 64))) 0 (
    given (to_unsigned 64 y) λ (k : ℕ).
    need (leb k n) 0 k))

-- x times the frames, which is the k of a mark k / n (`count_of_mark` of proofs/Marks)
abbrev pub count_of : Float → ℕ → ℕ
count_of x n = cut_to n (mul binary64 x (of_int binary64 (pos n)))

-- The same as facts, for proofs: x is k / n, and both marks are in rule by their k.
abbrev pub Mark : Float → ℕ → Type 0
Mark x n = (k : ℕ) × (k ≤ n) × (x ≡ ratio k n)

pub record Marks (raise clear : Float) (n : ℕ) : Type 0 where
  pub high : Mark raise n
  pub low : Mark clear n
  pub order : low.0 ≤ high.0
  pub above : 0 < high.0
