use Rattle.call_plan.proofs.Ons.{ons}
use Rattle.call_trees.specs.Trees.{unblock_at}
use Rattle.call_trees.proofs.unblock_at.Goals as goal

pub returns-in_err-at : goal.returns-in_err-at
unfolding unblock_at
returns-in_err-at c = search (ons, c.tracked_for.ensures, c.in_err-at.was) depth 16

pub returns : goal.returns
unfolding unblock_at
returns c = search (ons, c.tracked_for.ensures, c.in_ok-at.was, c.unblocked_state-state.ensures) depth 16
