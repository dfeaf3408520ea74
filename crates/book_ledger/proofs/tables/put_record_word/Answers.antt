use Rattle.base_rules.proofs.Facts.{arith}
use Rattle.book_ledger.specs.Tables.{set_record_word}
use Rattle.book_ledger.proofs.Outside.{cut_set, cut_out}
use Rattle.book_ledger.proofs.tables.put_record_word.Goals as goal

pub returns-then-at-domains : goal.returns-then-at-domains
unfolding set_record_word
returns-then-at-domains c = cut_set _ _ _ c.record_place-at.ensures (omega arith) _ c.if-at-domains.true

pub returns-else-at-domains : goal.returns-else-at-domains
unfolding set_record_word
returns-else-at-domains c = cut_out _ _ _ c.record_place-at.ensures (omega arith) _ c.if-at-domains.false
