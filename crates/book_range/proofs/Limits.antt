-- A frame's limits, looked up by its type.
use Rattle.base_rules.specs.Basics.{◌≡◌, ℕ, zero, suc, ◌%◌, ◌<◌, get_or, given}
use Rattle.base_rules.proofs.Facts.{refl, arith, mod-eq_of_lt}
use Rattle.book_ledger.specs.{declared.sizes.Sizes.Sizes, Words.frame_from}
use Rattle.book_range.specs.Range.{under, frame_limits, limits_by_type, frame_fits, fits_by_type}

at_type : (s : Sizes) (k : ℕ) → k < 8 → get_or (limits_by_type s) k (under 0 0 0 0) ≡ frame_limits s k
at_type s zero l = refl
at_type s (suc zero) l = refl
at_type s (suc (suc zero)) l = refl
at_type s (suc (suc (suc zero))) l = refl
at_type s (suc (suc (suc (suc zero)))) l = refl
at_type s (suc (suc (suc (suc (suc zero))))) l = refl
at_type s (suc (suc (suc (suc (suc (suc zero)))))) l = refl
at_type s (suc (suc (suc (suc (suc (suc (suc zero))))))) l = refl
at_type s (suc (suc (suc (suc (suc (suc (suc (suc k)))))))) l = absurd (omega arith)

type_below : (w : ℕ) → w % 8 < 8
type_below w = omega arith

pub by_type : (s : Sizes) (w : ℕ) → frame_fits s (frame_from w) ≡ fits_by_type (limits_by_type s) (frame_from w)
unfolding given
by_type s w = rw (mod-eq_of_lt (type_below w), at_type s (w % 8) (type_below w)) refl
