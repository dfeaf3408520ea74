use Rattle.call_plan.proofs.Ons.{ons}
use Rattle.call_domains.specs.Domains.{addcx_plan}
use Rattle.call_domains.proofs.plan_addcx.Goals as goal

pub returns-in_err-x : goal.returns-in_err-x
unfolding addcx_plan
returns-in_err-x c = search (ons, c.frame_operand-f.ensures, c.find_parties.ensures, c.in_err-x.was) depth 16

pub returns : goal.returns
unfolding addcx_plan
returns c = search (ons, c.frame_operand-f.ensures, c.find_parties.ensures, c.in_ok-x.was, c.enlists.ensures) depth 16
