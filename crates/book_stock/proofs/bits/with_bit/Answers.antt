use Rattle.base_rules.proofs.Facts.{arith, steps}
use Rattle.book_stock.specs.Bits.{bit_set, with_bit}
use Rattle.book_stock.proofs.Bit.{shl_bit, room}
use Rattle.book_stock.proofs.bits.with_bit.Goals as goal

pub returns-then-on : goal.returns-then-on
unfolding with_bit bit_set
returns-then-on c = search steps

pub returns-then-word-bit-eq1 : goal.returns-then-word-bit-eq1
unfolding with_bit bit_set
returns-then-word-bit-eq1 c = rw shl_bit (search steps)

pub overflow_add-result : goal.overflow_add-result
unfolding with_bit bit_set
overflow_add-result c = rw shl_bit (record { fits = room 64 _ _ (omega arith) (omega arith) (omega arith) })

pub returns-then-on-2 : goal.returns-then-on-2
unfolding with_bit bit_set
returns-then-on-2 c = rw shl_bit (search steps)

pub returns : goal.returns
unfolding with_bit bit_set
returns c = search steps
