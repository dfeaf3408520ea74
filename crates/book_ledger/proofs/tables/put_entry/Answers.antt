use Rattle.base_rules.proofs.Facts.{arith}
use Rattle.book_ledger.specs.Tables.{set_entry}
use Rattle.book_ledger.proofs.Outside.{cut_set, cut_out}
use Rattle.book_ledger.proofs.tables.put_entry.Goals as goal

pub returns-then-place-entries : goal.returns-then-place-entries
unfolding set_entry
returns-then-place-entries c = rw c.from.ensures (cut_set _ _ _ c.place-place.ensures (omega arith) _ c.if-place-entries.true)

pub returns-else-place-entries : goal.returns-else-place-entries
unfolding set_entry
returns-else-place-entries c = cut_out _ _ _ c.place-place.ensures (omega arith) _ c.if-place-entries.false
