use Rattle.base_rules.specs.Basics.{given}
use Rattle.base_rules.proofs.Facts.{steps}
use Rattle.base_calls.proofs.Accepted.{if_refused, if_accepted}
use Rattle.call_run.specs.Runs.{known_reset}
use Rattle.call_run.proofs.known_reset.Goals as goal

pub returns-then-is_err : goal.returns-then-is_err
unfolding known_reset given
returns-then-is_err c = search (if_refused, c.is_err.ensures.value, steps) depth 12

pub returns : goal.returns
unfolding known_reset given
returns c = search (if_accepted, c.is_err.ensures.value, steps) depth 12
