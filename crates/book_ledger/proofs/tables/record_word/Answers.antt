use Rattle.base_rules.proofs.Facts.{◌∙◌, arith, rules}
use Rattle.book_ledger.specs.Tables.{record_word}
use Rattle.book_ledger.proofs.Outside.{cut_get}
use Rattle.book_ledger.proofs.tables.record_word.Goals as goal

pub returns : goal.returns
unfolding record_word
returns c = search rules ∙ cut_get c.args.domains.now _ _ c.record_place-at.ensures (omega arith)
