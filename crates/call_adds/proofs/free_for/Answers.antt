use Rattle.call_plan.proofs.Ons.{ons}
use Rattle.call_adds.specs.Adds.{free_for}
use Rattle.call_adds.proofs.free_for.Goals as goal

pub returns-then-not-is_nda : goal.returns-then-not-is_nda
unfolding free_for
returns-then-not-is_nda c = search (ons, c.is_nda.ensures) depth 16

pub returns : goal.returns
unfolding free_for
returns c = search (ons, c.is_nda.ensures, c.entry_for.ensures) depth 16
