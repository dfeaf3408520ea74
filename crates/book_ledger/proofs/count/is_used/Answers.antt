use Rattle.base_rules.proofs.Facts.{steps}
use Rattle.book_ledger.specs.Count.{is_used}
use Rattle.book_ledger.proofs.count.is_used.Goals as goal

pub returns-then-f-eq-NDA-clause-is : goal.returns-then-f-eq-NDA-clause-is
unfolding is_used
returns-then-f-eq-NDA-clause-is c = search steps

pub returns-clause-is : goal.returns-clause-is
unfolding is_used
returns-clause-is c = search steps
