-- A bit of a word, shifted to its place, is a power of two.
use Rattle.base_rules.specs.Basics.{◌≡◌, ℕ, ◌*◌, ◌%◌, ◌^◌, ◌<◌}
use Rattle.base_rules.proofs.Facts.{one-mul, mod-eq_of_lt, pow-lt}

pub one_shl : (k : ℕ) → k < 64 → 1 * 2 ^ k % 18446744073709551616 ≡ 2 ^ k
one_shl k h = rw one-mul (mod-eq_of_lt (pow-lt {j = 64} h))
