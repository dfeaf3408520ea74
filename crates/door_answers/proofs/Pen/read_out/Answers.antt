use Rattle.door_answers.specs.Answers.{read_out}
use Rattle.door_answers.proofs.Writes.{writes}
use Rattle.door_answers.proofs.Pen.read_out.Goals as goal

pub returns-in-Ok-Done-clause-wrote : goal.returns-in-Ok-Done-clause-wrote
unfolding read_out
returns-in-Ok-Done-clause-wrote c = let e = rw c.in-Ok-Done.is at c.in-Ok-Done.field-0-is in rw (c.in-Ok-Done.is, e) (search writes)

pub returns-in-Ok-Page-clause-wrote : goal.returns-in-Ok-Page-clause-wrote
unfolding read_out
returns-in-Ok-Page-clause-wrote c = let e = rw c.in-Ok-Page.is at c.in-Ok-Page.field-0-is in rw (c.in-Ok-Page.is, e) (search writes)

pub returns-in-Ok-Entry-clause-wrote : goal.returns-in-Ok-Entry-clause-wrote
unfolding read_out
returns-in-Ok-Entry-clause-wrote c = let e = rw c.in-Ok-Entry.is at c.in-Ok-Entry.field-0-is in rw (c.in-Ok-Entry.is, e) (search writes)

pub returns-in-Err-No-clause-wrote : goal.returns-in-Err-No-clause-wrote
unfolding read_out
returns-in-Err-No-clause-wrote c = let e = rw c.in-Err-No.is at c.in-Err-No.field-0-is in rw (c.in-Err-No.is, e) (search writes)

pub returns-in-Err-Stop-clause-wrote : goal.returns-in-Err-Stop-clause-wrote
unfolding read_out
returns-in-Err-Stop-clause-wrote c = let e = rw c.in-Err-Stop.is at c.in-Err-Stop.field-0-is in rw (c.in-Err-Stop.is, e) (search writes)
