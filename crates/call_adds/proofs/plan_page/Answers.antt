use Rattle.call_plan.proofs.Ons.{ons}
use Rattle.call_adds.specs.Adds.{page_plan}
use Rattle.call_adds.proofs.plan_page.Goals as goal

pub returns-in_err-x : goal.returns-in_err-x
unfolding page_plan
returns-in_err-x c = search (ons, c.frame_operand-f.ensures, c.find_spot.ensures, c.in_err-x.was) depth 16

pub returns : goal.returns
unfolding page_plan
returns c = search (ons, c.frame_operand-f.ensures, c.find_spot.ensures, c.in_ok-x.was, c.page_at.ensures) depth 16
