use Rattle.book_stock.specs.Bits.{spare_clear}
use Rattle.book_stock.proofs.Bit.{shl_bit}
use Rattle.book_stock.proofs.bits.spare_clear.Goals as goal

pub returns : goal.returns
unfolding spare_clear
returns c = rw (c.word_of-word.ensures, shl_bit)
