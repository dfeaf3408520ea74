use Rattle.book_ledger.specs.Tables.{domain_at}
use Rattle.book_ledger.proofs.tables.domain_at.Goals as goal

pub returns : goal.returns
unfolding domain_at
returns c = rw (← c.record_word.ensures) c.from.ensures
