use Rattle.door_answers.specs.Answers.{line_with}
use Rattle.door_answers.proofs.Writes.{writes}
use Rattle.door_answers.proofs.Pen.line.Goals as goal

pub returns-clause-wrote : goal.returns-clause-wrote
unfolding line_with
returns-clause-wrote c = search writes
