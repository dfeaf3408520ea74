use Rattle.call_plan.proofs.Ons.{ons}
use Rattle.call_plan.specs.Lookup.{spot_for}
use Rattle.call_plan.proofs.lookup.find_spot.Goals as goal

pub returns : goal.returns
unfolding spot_for
returns c = search ons depth 16
