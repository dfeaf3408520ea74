use Rattle.call_plan.proofs.Ons.{ons}
use Rattle.call_pages.specs.Pages.{readpage_plan}
use Rattle.call_pages.proofs.plan_readpage.Goals as goal

pub returns-in_err-n : goal.returns-in_err-n
unfolding readpage_plan
returns-in_err-n c = search (ons, c.frame_operand.ensures, c.in_err-n.was) depth 16

pub returns-then-f-lt-TDCX : goal.returns-then-f-lt-TDCX
unfolding readpage_plan
returns-then-f-lt-TDCX c = search (ons, c.frame_operand.ensures, c.in_ok-n.was, c.frame_at-f.ensures) depth 16

pub returns : goal.returns
unfolding readpage_plan
returns c = search (ons, c.frame_operand.ensures, c.in_ok-n.was, c.frame_at-f.ensures, c.hpa_of-owner.ensures) depth 16
