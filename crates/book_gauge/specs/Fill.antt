-- "Fill is a binary64 number, exactly the frames that aren't NDA divided by the frames in the window."
use Rattle.std.specs.Prelude.{◌≡◌, ℕ, zero, suc, ◌+◌, ◌-◌, ◌*◌, ◌^◌, ◌≤◌}
use lib.{IntN.pos, Ieee.Float, Ieee.binary64, Ieee.of_int, Ieee.div, Ieee.size, Ieee.to_bits}

-- a / n in binary64
abbrev pub ratio : ℕ → ℕ → Float
ratio a n = div binary64 (of_int binary64 (pos a)) (of_int binary64 (pos n))

-- The bits of a / 2 ^ k by whole numbers alone. With h the place of a's highest one bit, a is 2 ^ h and a rest: the sign is clear, the
-- exponent's field is 1023 + h - k, and the rest, moved up to 52 places, is the digits' field.
unfoldable pub ratio_bits : ℕ → ℕ → ℕ
ratio_bits zero k = 0
ratio_bits (suc a) k = let h = size (suc a) - 1 in (1023 + h - k) * 2 ^ 52 + (suc a - 2 ^ h) * 2 ^ (52 - h)

-- what a fill is: the quotient always, and its very bits where the frames are a power of two and no fewer than those used
pub record Filled (used frames : ℕ) (fill : Float) : Type 0 where
  pub quotient : fill ≡ ratio used frames
  pub bits : (k : ℕ) → k ≤ 52 → frames ≡ 2 ^ k → used ≤ frames → to_bits binary64 fill ≡ ratio_bits used k
