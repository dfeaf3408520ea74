use Rattle.base_rules.proofs.Facts.{rules}
use Rattle.book_stock.specs.Bits.{word_of}
use Rattle.book_stock.proofs.bits.word_of.Goals as goal

pub returns : goal.returns
unfolding word_of
returns c = search rules
