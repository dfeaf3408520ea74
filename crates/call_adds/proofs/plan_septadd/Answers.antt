use Rattle.call_plan.proofs.Ons.{ons}
use Rattle.call_adds.specs.Adds.{septadd_plan}
use Rattle.call_adds.proofs.plan_septadd.Goals as goal

pub returns-in_err-x : goal.returns-in_err-x
unfolding septadd_plan
returns-in_err-x c = search (ons, c.frame_operand-f.ensures, c.find_spot.ensures, c.in_err-x.was) depth 16

pub returns : goal.returns
unfolding septadd_plan
returns c = search (ons, c.frame_operand-f.ensures, c.find_spot.ensures, c.in_ok-x.was, c.sept_at.ensures) depth 16
