use Rattle.call_plan.proofs.Ons.{ons}
use Rattle.call_trees.specs.Trees.{septremove_at}
use Rattle.call_trees.proofs.septremove_at.Goals as goal

pub returns-in_err-at : goal.returns-in_err-at
unfolding septremove_at
returns-in_err-at c = search (ons, c.tracked_for.ensures, c.in_err-at.was) depth 16

pub returns-then-not-table_empty : goal.returns-then-not-table_empty
unfolding septremove_at
returns-then-not-table_empty c = search (ons, c.tracked_for.ensures, c.in_ok-at.was, c.frame_at-f.ensures, c.table_empty.ensures) depth 16

pub returns : goal.returns
unfolding septremove_at
returns c = search (ons, c.tracked_for.ensures, c.in_ok-at.was, c.frame_at-f.ensures, c.table_empty.ensures, c.frees.ensures) depth 16
