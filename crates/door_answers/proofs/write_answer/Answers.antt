use Rattle.door_answers.proofs.write_answer.Goals as goal

pub returns : goal.returns
returns c = rw c.from.ensures at c.write_line.ensures
