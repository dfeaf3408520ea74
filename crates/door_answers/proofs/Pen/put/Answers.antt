use Rattle.base_rules.proofs.Facts.{steps}
use Rattle.door_answers.specs.Answers.{wrote_byte}
use Rattle.door_answers.proofs.Pen.put.Goals as goal

pub returns-then-self-clause-wrote : goal.returns-then-self-clause-wrote
unfolding wrote_byte
returns-then-self-clause-wrote c = search steps

pub returns-else-self-clause-wrote : goal.returns-else-self-clause-wrote
unfolding wrote_byte
returns-else-self-clause-wrote c = search steps
