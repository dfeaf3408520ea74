use Rattle.call_plan.proofs.Ons.{ons}
use Rattle.call_trees.specs.Trees.{pageremove_at}
use Rattle.call_trees.proofs.pageremove_at.Goals as goal

pub returns-in_err-at : goal.returns-in_err-at
unfolding pageremove_at
returns-in_err-at c = search (ons, c.tracked_for.ensures, c.in_err-at.was) depth 16

pub returns : goal.returns
unfolding pageremove_at
returns c = search (ons, c.tracked_for.ensures, c.in_ok-at.was, c.frees.ensures) depth 16
