use Rattle.base_numbers.proofs.Numbers.{Spelling}
use Rattle.base_numbers.proofs.spelt.Given as goal

abbrev pub invariant-loop-byte : goal.invariant-loop-byte
invariant-loop-byte l = Spelling l.field l.value l.byte-index
