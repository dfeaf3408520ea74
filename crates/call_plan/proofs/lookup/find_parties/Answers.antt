use Rattle.call_plan.proofs.Ons.{ons}
use Rattle.call_plan.specs.Lookup.{parties_for}
use Rattle.call_plan.proofs.lookup.find_parties.Goals as goal

pub returns-in_err-n : goal.returns-in_err-n
unfolding parties_for
returns-in_err-n c = search (ons, c.frame_operand.ensures, c.in_err-n.was) depth 16

pub returns-in_err-m : goal.returns-in_err-m
unfolding parties_for
returns-in_err-m c = search (ons, c.frame_operand.ensures, c.in_ok-n.was, c.in_err-m.was) depth 16

pub returns-in_err-x : goal.returns-in_err-x
unfolding parties_for
returns-in_err-x c = search (ons, c.frame_operand.ensures, c.in_ok-n.was, c.in_ok-m.was, c.find_domain.ensures, c.in_err-x.was) depth 16

pub returns : goal.returns
unfolding parties_for
returns c = search (ons, c.frame_operand.ensures, c.in_ok-n.was, c.in_ok-m.was, c.find_domain.ensures, c.in_ok-x.was) depth 16
