use Rattle.call_plan.proofs.Ons.{ons}
use Rattle.call_plan.specs.Entries.{is_tracked}
use Rattle.call_trees.proofs.is_tracked.Goals as goal

pub returns-then-x-eq-INITIALIZED : goal.returns-then-x-eq-INITIALIZED
unfolding is_tracked
returns-then-x-eq-INITIALIZED c = search ons depth 16

pub returns : goal.returns
unfolding is_tracked
returns c = search (ons, c.frame_at.ensures) depth 16
