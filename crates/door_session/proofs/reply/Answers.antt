use Rattle.door_asks.specs.Asks.{ask_of}
use Rattle.door_session.specs.Session.{answered, on_line}
use Rattle.door_session.proofs.reply.Goals as goal

pub returns-in-None-clause-replies : goal.returns-in-None-clause-replies
unfolding answered on_line
returns-in-None-clause-replies c = rw (← c.read_line.ensures, c.in-None.is, ← c.write_unreadable.ensures)

pub returns-in-Some-clause-replies : goal.returns-in-Some-clause-replies
unfolding answered on_line ask_of
returns-in-Some-clause-replies c = rw (← c.read_line.ensures, c.in-Some.is, ← c.answer_ask-r.ensures.outcome, ← c.write_answer.ensures)
