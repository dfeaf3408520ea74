use Rattle.base_rules.proofs.Facts.{steps}
use Rattle.book_range.specs.Range.{table_ok}
use Rattle.book_range.proofs.table_ok.Goals as goal

pub returns-then-not-in_use : goal.returns-then-not-in_use
unfolding table_ok
returns-then-not-in_use c = search steps depth 12

pub returns : goal.returns
unfolding table_ok
returns c = search steps depth 12
