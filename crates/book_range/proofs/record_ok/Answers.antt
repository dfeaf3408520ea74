use Rattle.base_rules.proofs.Facts.{steps}
use Rattle.book_range.specs.Range.{record_ok}
use Rattle.book_range.proofs.record_ok.Goals as goal

pub returns-then-not-domain_ok : goal.returns-then-not-domain_ok
unfolding record_ok
returns-then-not-domain_ok c = search steps depth 12

pub returns : goal.returns
unfolding record_ok
returns c = search steps depth 12
