use Rattle.call_plan.proofs.Ons.{ons}
use Rattle.call_plan.specs.Entries.{free_at}
use Rattle.call_plan.proofs.entry.free_at.Goals as goal

pub returns : goal.returns
unfolding free_at
returns c = search ons depth 16
