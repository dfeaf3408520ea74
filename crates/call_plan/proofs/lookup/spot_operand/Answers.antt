use Rattle.call_plan.proofs.Ons.{ons}
use Rattle.call_plan.specs.Lookup.{spot_operand}
use Rattle.call_plan.proofs.lookup.spot_operand.Goals as goal

pub returns-then-not-gpa_fits : goal.returns-then-not-gpa_fits
unfolding spot_operand
returns-then-not-gpa_fits c = search ons depth 16

pub returns-then-not-level_ok : goal.returns-then-not-level_ok
unfolding spot_operand
returns-then-not-level_ok c = search ons depth 16

pub returns : goal.returns
unfolding spot_operand
returns c = search ons depth 16
