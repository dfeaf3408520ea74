use Rattle.base_rules.proofs.Facts.{steps}
use Rattle.book_range.specs.Range.{page_ok}
use Rattle.book_range.proofs.page_ok.Goals as goal

pub returns-then-page-listed : goal.returns-then-page-listed
unfolding page_ok
returns-then-page-listed c = search steps depth 12

pub returns : goal.returns
unfolding page_ok
returns c = search steps depth 12
