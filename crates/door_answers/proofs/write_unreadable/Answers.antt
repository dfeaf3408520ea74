use Rattle.base_calls.specs.Answers.{values_of}
use Rattle.door_answers.specs.Answers.{line_with, read_out}
use Rattle.door_answers.proofs.write_unreadable.Goals as goal

pub returns : goal.returns
unfolding line_with read_out values_of
returns c = c.write_answer.ensures
