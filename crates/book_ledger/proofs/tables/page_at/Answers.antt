use Rattle.book_ledger.specs.Tables.{page_at}
use Rattle.book_ledger.proofs.tables.page_at.Goals as goal

pub returns : goal.returns
unfolding page_at
returns c = rw (← c.record_word.ensures)
