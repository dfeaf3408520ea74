use Rattle.door_answers.specs.Answers.{pairs_line}
use Rattle.door_answers.proofs.Writes.{writes}
use Rattle.door_answers.proofs.Pen.pairs_line.Goals as goal

pub returns-clause-wrote : goal.returns-clause-wrote
unfolding pairs_line
returns-clause-wrote c = search writes
