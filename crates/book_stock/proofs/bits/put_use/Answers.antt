use Rattle.base_rules.proofs.Facts.{set_out}
use Rattle.book_stock.specs.Bits.{word_of, set_use}
use Rattle.book_stock.proofs.bits.put_use.Goals as goal

pub returns-then-index-stock : goal.returns-then-index-stock
unfolding set_use word_of
returns-then-index-stock c = rw c.with_bit.ensures

pub returns-else-index-stock : goal.returns-else-index-stock
unfolding set_use word_of
returns-else-index-stock c = rw (set_out _ _ _ c.if-index-stock.false)
