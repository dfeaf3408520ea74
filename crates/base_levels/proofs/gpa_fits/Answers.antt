use Rattle.base_rules.proofs.Facts.{steps, pow_pos}
use Rattle.base_levels.specs.Level.{gpa_fits}
use Rattle.base_units.proofs.Shifts.{one_shl}
use Rattle.base_levels.proofs.Levels.{low_below}
use Rattle.base_levels.proofs.gpa_fits.Goals as goal

pub returns-then-gpa-ge-GPA_END_BYTES : goal.returns-then-gpa-ge-GPA_END_BYTES
unfolding gpa_fits
returns-then-gpa-ge-GPA_END_BYTES c = search steps depth 12

pub overflow_shl-result : goal.overflow_shl-result
unfolding gpa_fits
overflow_shl-result c = rw c.row_of-row.ensures (low_below _)

pub nonzero_rem-result : goal.nonzero_rem-result
unfolding gpa_fits
nonzero_rem-result c = rw (c.row_of-row.ensures, one_shl, low_below) (pow_pos _)

pub returns : goal.returns
unfolding gpa_fits
returns c = rw (c.row_of-row.ensures, one_shl, low_below) (search steps)
