use Rattle.call_plan.proofs.Ons.{ons}
use Rattle.base_rules.specs.Basics.{given}
use Rattle.call_plan.specs.Changes.{lose}
use Rattle.call_plan.proofs.change.loses.Goals as goal

pub returns-then-x-eq0 : goal.returns-then-x-eq0
unfolding lose given
returns-then-x-eq0 c = search ons depth 16

pub returns : goal.returns
unfolding lose given
returns c = search ons depth 16
