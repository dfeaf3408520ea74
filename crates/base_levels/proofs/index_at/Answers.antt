use Rattle.base_levels.specs.Level.{index_at}
use Rattle.base_levels.proofs.Levels.{shift_below}
use Rattle.base_levels.proofs.index_at.Goals as goal

pub overflow_shr-result : goal.overflow_shr-result
unfolding index_at
overflow_shr-result c = rw c.row_of-row.ensures (shift_below _)

pub returns : goal.returns
unfolding index_at
returns c = rw c.row_of-row.ensures
