use Rattle.std.proofs.lemmas.Grind.{common_steps}
use Rattle.base_rules.proofs.Facts.{arith}
use Rattle.book_ledger.specs.Tables.{set_page}
use Rattle.book_ledger.proofs.tables.put_page.Goals as goal

pub returns : goal.returns
unfolding set_page
returns c = grind (arith, common_steps, c.put_record_word.ensures)
