use Rattle.base_rules.proofs.Facts.{steps}
use Rattle.call_run.proofs.Arms.{edit_is}
use Rattle.call_run.specs.Runs.{used_after}
use Rattle.call_run.proofs.used_after.Goals as goal

pub returns : goal.returns
unfolding used_after
returns c = search (edit_is, steps) depth 12

pub returns-in_default : goal.returns-in_default
unfolding used_after
returns-in_default c = search (edit_is, steps) depth 12
