use Rattle.call_run.specs.Runs.{next_of}
use Rattle.call_run.proofs.Arms.{ask_is, was_reset}
use Rattle.call_run.proofs.next_ask.Goals as goal

pub returns-in-Host-clause-next : goal.returns-in-Host-clause-next
unfolding next_of
returns-in-Host-clause-next c = search (ask_is, c.host_with.ensures.next)

pub returns-in-Marks-clause-next : goal.returns-in-Marks-clause-next
unfolding next_of
returns-in-Marks-clause-next c = let marks = rw c.shared.ensures.tables at c.marks_with.ensures in search (ask_is, marks)

pub returns-in-Reset-clause-next : goal.returns-in-Reset-clause-next
unfolding next_of
returns-in-Reset-clause-next c = search (ask_is, was_reset, c.reset-o.ensures.outcome)

pub returns-in-Unreadable-clause-next : goal.returns-in-Unreadable-clause-next
unfolding next_of
returns-in-Unreadable-clause-next c = rw c.refuses.ensures (search ask_is)
