use Rattle.door_answers.proofs.Writes.{writes}
use Rattle.door_answers.proofs.Pen.pair.Goals as goal

pub returns-clause-wrote : goal.returns-clause-wrote
returns-clause-wrote c = search writes
