use Rattle.call_plan.proofs.Ons.{ons}
use Rattle.call_plan.specs.Lookup.{is_nda}
use Rattle.call_plan.proofs.lookup.is_nda.Goals as goal

pub returns : goal.returns
unfolding is_nda
returns c = search ons depth 16
