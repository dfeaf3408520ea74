use Rattle.door_asks.specs.Asks.{ask_of}
use Rattle.door_asks.proofs.answer_ask.Goals as goal

pub returns-in-Marks-clause-outcome : goal.returns-in-Marks-clause-outcome
unfolding ask_of
returns-in-Marks-clause-outcome c = rw (c.in-Marks.is, ← c.shared.ensures.base, ← c.shared.ensures.tables) c.set_marks.ensures
