use Rattle.call_plan.proofs.Ons.{ons}
use Rattle.call_domains.specs.Domains.{create_plan}
use Rattle.call_domains.proofs.plan_create.Goals as goal

pub returns-in_err-f : goal.returns-in_err-f
unfolding create_plan
returns-in_err-f c = search (ons, c.frame_operand.ensures, c.in_err-f.was) depth 16

pub returns-then-not-allow : goal.returns-then-not-allow
unfolding create_plan
returns-then-not-allow c = search (ons, c.frame_operand.ensures, c.in_ok-f.was, c.allow.ensures) depth 16

pub returns : goal.returns
unfolding create_plan
returns c = search (ons, c.frame_operand.ensures, c.in_ok-f.was, c.allow.ensures, c.creates.ensures) depth 16
