use Rattle.call_plan.proofs.Ons.{ons}
use Rattle.call_plan.specs.Lookup.{frame_operand}
use Rattle.call_plan.proofs.lookup.frame_operand.Goals as goal

pub returns : goal.returns
unfolding frame_operand
returns c = search ons depth 16
