use Rattle.base_rules.proofs.Facts.{arith}
use Rattle.call_run.specs.Runs.{counted}
use Rattle.call_run.proofs.moved.Goals as goal

pub returns : goal.returns
unfolding counted
returns c = omega arith
