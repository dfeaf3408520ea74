use Rattle.base_rules.specs.Basics.{given}
use Rattle.base_rules.proofs.Facts.{steps}
use Rattle.base_calls.proofs.Accepted.{if_refused, if_accepted}
use Rattle.call_host.specs.Calls.{gauge_after}
use Rattle.call_host.proofs.call.gauge_after.Goals as goal

pub returns-then-is_err : goal.returns-then-is_err
unfolding gauge_after given
returns-then-is_err c = search (if_refused, c.is_err.ensures.value, steps) depth 12

pub returns : goal.returns
unfolding gauge_after given
returns c = search (if_accepted, c.is_err.ensures.value, steps) depth 12
