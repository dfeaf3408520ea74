use Rattle.door_answers.proofs.Writes.{Writing}
use Rattle.door_answers.proofs.Pen.text.Given as goal

abbrev pub invariant-loop-byte : goal.invariant-loop-byte
invariant-loop-byte l = Writing l.text l.fn.self l.self l.byte-index
