use Rattle.call_plan.proofs.Ons.{ons}
use Rattle.call_plan.specs.Entries.{unblocked_state}
use Rattle.call_plan.proofs.entry.unblocked_state.Goals as goal

pub returns-then-state-eq-NL_BLOCKED : goal.returns-then-state-eq-NL_BLOCKED
unfolding unblocked_state
returns-then-state-eq-NL_BLOCKED c = search ons depth 16

pub returns-then-state-eq-BLOCKED : goal.returns-then-state-eq-BLOCKED
unfolding unblocked_state
returns-then-state-eq-BLOCKED c = search ons depth 16

pub returns : goal.returns
unfolding unblocked_state
returns c = search ons depth 16
