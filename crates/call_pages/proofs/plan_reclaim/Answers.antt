use Rattle.call_plan.proofs.Ons.{ons}
use Rattle.call_pages.specs.Pages.{reclaim_plan}
use Rattle.call_pages.proofs.plan_reclaim.Goals as goal

pub returns-in_err-n : goal.returns-in_err-n
unfolding reclaim_plan
returns-in_err-n c = search (ons, c.frame_operand.ensures, c.in_err-n.was) depth 16

pub returns : goal.returns
unfolding reclaim_plan
returns c = search (ons, c.frame_operand.ensures, c.in_ok-n.was, c.reclaim_at.ensures) depth 16
