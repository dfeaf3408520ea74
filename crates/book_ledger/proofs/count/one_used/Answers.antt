use Rattle.book_ledger.specs.Count.{is_used, one_used}
use Rattle.book_ledger.proofs.count.one_used.Goals as goal

pub returns-clause-is : goal.returns-clause-is
unfolding is_used one_used
returns-clause-is c = rw (← c.frame_at.ensures) c.is_used.ensures.is
