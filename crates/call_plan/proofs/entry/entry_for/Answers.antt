use Rattle.call_plan.proofs.Ons.{ons}
use Rattle.call_plan.specs.Entries.{entry_for}
use Rattle.call_plan.proofs.entry.entry_for.Goals as goal

pub returns-in_err-at : goal.returns-in_err-at
unfolding entry_for
returns-in_err-at c = search (ons, c.in_err-at.was) depth 16

pub returns-then-not-allow : goal.returns-then-not-allow
unfolding entry_for
returns-then-not-allow c = search (ons, c.in_ok-at.was) depth 16

pub returns : goal.returns
unfolding entry_for
returns c = search (ons, c.in_ok-at.was) depth 16
