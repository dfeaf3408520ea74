use Rattle.book_stock.specs.Bits.{bit_set, in_use}
use Rattle.book_stock.proofs.bits.in_use.Goals as goal

pub returns : goal.returns
unfolding in_use bit_set
returns c = rw c.word_of-word.ensures
