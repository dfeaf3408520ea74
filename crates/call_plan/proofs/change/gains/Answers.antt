use Rattle.call_plan.proofs.Ons.{ons}
use Rattle.base_rules.specs.Basics.{given}
use Rattle.call_plan.specs.Changes.{gain}
use Rattle.call_plan.proofs.change.gains.Goals as goal

pub returns-then-x-frames : goal.returns-then-x-frames
unfolding gain given
returns-then-x-frames c = search ons depth 16

pub returns : goal.returns
unfolding gain given
returns c = search ons depth 16
