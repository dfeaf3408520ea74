use Rattle.call_plan.proofs.Ons.{ons}
use Rattle.call_plan.specs.Lookup.{domain_for}
use Rattle.call_plan.proofs.lookup.find_domain.Goals as goal

pub returns-then-f-ne-TDR : goal.returns-then-f-ne-TDR
unfolding domain_for
returns-then-f-ne-TDR c = search ons depth 16

pub returns-then-not-in_use : goal.returns-then-not-in_use
unfolding domain_for
returns-then-not-in_use c = search ons depth 16

pub returns : goal.returns
unfolding domain_for
returns c = search ons depth 16
