-- "Each says whether it is in use": bit b stands in word b / 64, as bit b % 64 of it.
use Rattle.std.specs.Prelude.{Option, Some, None, ℕ, zero, suc, ◌+◌, ◌-◌, ◌/◌, ◌%◌, ◌^◌, Bool, List, get_or, set, eqb, ltb}
use Rattle.base_rules.specs.Basics.{choose}

-- bits of a word
abbrev pub word_bits : ℕ
word_bits = 64

unfoldable pub word_of : List ℕ → ℕ → ℕ
word_of ws b = get_or ws (b / word_bits) 0

unfoldable pub bit_set : ℕ → ℕ → Bool
bit_set w k = eqb (w / 2 ^ k % 2) 1

unfoldable pub in_use : List ℕ → ℕ → Bool
in_use ws b = bit_set (word_of ws b) (b % word_bits)

-- the word w with bit k on or off, and its other bits as they are
unfoldable pub with_bit : ℕ → ℕ → Bool → ℕ
with_bit w k on = choose (bit_set w k) (choose on w (w - 2 ^ k)) (choose on (w + 2 ^ k) w)

unfoldable pub set_use : List ℕ → ℕ → Bool → List ℕ
set_use ws b on = set ws (b / word_bits) (with_bit (word_of ws b) (b % word_bits) on)

-- "A record or a table is taken lowest number first": the lowest of the k blocks from b on that isn't in use
module _ (ws : List ℕ) where
  unfoldable pub lowest_from : ℕ → ℕ → Option ℕ
  lowest_from b zero = None
  lowest_from b (suc k) = choose (in_use ws b) (lowest_from (b + 1) k) (Some b)

  -- from `from` up to but not including `to`
  unfoldable pub lowest_unused : ℕ → ℕ → Option ℕ
  lowest_unused from to = lowest_from from (to - from)

-- the bits of blocks from n on are zero, in the word of block n. (Where n fills its words that is one past them, and reads 0.)
unfoldable pub spare_clear : List ℕ → ℕ → Bool
spare_clear ws n = ltb (word_of ws n) (2 ^ (n % word_bits))
