use Rattle.book_ledger.specs.Tables.{set_domain}
use Rattle.book_ledger.proofs.tables.put_domain.Goals as goal

pub returns : goal.returns
unfolding set_domain
returns c = rw (← c.from.ensures) c.put_record_word.ensures
