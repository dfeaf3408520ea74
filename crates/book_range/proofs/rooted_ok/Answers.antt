use Rattle.base_rules.proofs.Facts.{steps}
use Rattle.book_range.specs.Range.{rooted_ok}
use Rattle.book_range.proofs.rooted_ok.Goals as goal

pub returns-then-not-in_use : goal.returns-then-not-in_use
unfolding rooted_ok
returns-then-not-in_use c = search steps depth 12

pub returns-then-not-record_ok : goal.returns-then-not-record_ok
unfolding rooted_ok
returns-then-not-record_ok c = search steps depth 12

pub returns : goal.returns
unfolding rooted_ok
returns c = search steps depth 12
