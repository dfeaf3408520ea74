use Rattle.call_plan.proofs.Ons.{ons}
use Rattle.call_plan.specs.Entries.{blocked_state}
use Rattle.call_plan.proofs.entry.blocked_state.Goals as goal

pub returns-then-state-eq-NL_MAPPED : goal.returns-then-state-eq-NL_MAPPED
unfolding blocked_state
returns-then-state-eq-NL_MAPPED c = search ons depth 16

pub returns-then-state-eq-MAPPED : goal.returns-then-state-eq-MAPPED
unfolding blocked_state
returns-then-state-eq-MAPPED c = search ons depth 16

pub returns : goal.returns
unfolding blocked_state
returns c = search ons depth 16
