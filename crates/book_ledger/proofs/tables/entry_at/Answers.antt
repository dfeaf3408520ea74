use Rattle.base_rules.proofs.Facts.{◌∙◌, ap, arith, rules}
use Rattle.book_ledger.specs.{Tables.entry_at, Words.entry_from}
use Rattle.book_ledger.proofs.Outside.{cut_get}
use Rattle.book_ledger.proofs.tables.entry_at.Goals as goal

pub returns : goal.returns
unfolding entry_at
returns c = c.from.ensures ∙ ap entry_from (search rules ∙ cut_get c.args.entries.now _ _ c.place.ensures (omega arith))
