use Rattle.call_plan.proofs.Ons.{ons}
use Rattle.call_trees.specs.Trees.{tracked_for}
use Rattle.call_trees.proofs.tracked_for.Goals as goal

pub returns-in_err-at : goal.returns-in_err-at
unfolding tracked_for
returns-in_err-at c = search (ons, c.entry_for.ensures, c.in_err-at.was) depth 16

pub returns-then-not-is_tracked : goal.returns-then-not-is_tracked
unfolding tracked_for
returns-then-not-is_tracked c = search (ons, c.entry_for.ensures, c.in_ok-at.was, c.is_tracked.ensures) depth 16

pub returns-then-not-own_frame : goal.returns-then-not-own_frame
unfolding tracked_for
returns-then-not-own_frame c = search (ons, c.entry_for.ensures, c.in_ok-at.was, c.is_tracked.ensures, c.own_frame.ensures) depth 16

pub returns : goal.returns
unfolding tracked_for
returns c = search (ons, c.entry_for.ensures, c.in_ok-at.was, c.is_tracked.ensures, c.own_frame.ensures) depth 16
