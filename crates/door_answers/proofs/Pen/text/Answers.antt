use Rattle.door_answers.proofs.Writes.{writing_more, writing_end}
use Rattle.door_answers.proofs.Pen.text.Goals as goal

pub loop-byte-preserved : goal.loop-byte-preserved
loop-byte-preserved c = search writing_more

pub returns-clause-wrote : goal.returns-clause-wrote
returns-clause-wrote c = search writing_end
