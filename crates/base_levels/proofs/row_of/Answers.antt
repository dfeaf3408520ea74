use Rattle.base_rules.proofs.Facts.{rules}
use Rattle.base_levels.specs.Level.{row_of}
use Rattle.base_levels.proofs.row_of.Goals as goal

pub returns : goal.returns
unfolding row_of
returns c = search rules
