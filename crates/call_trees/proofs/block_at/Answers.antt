use Rattle.call_plan.proofs.Ons.{ons}
use Rattle.base_rules.specs.Basics.{given}
use Rattle.call_trees.specs.Trees.{block_at}
use Rattle.call_trees.proofs.block_at.Goals as goal

pub returns-in_err-at : goal.returns-in_err-at
unfolding block_at
returns-in_err-at c = search (ons, c.entry_for.ensures, c.in_err-at.was) depth 16

pub returns-then-not-own_frame : goal.returns-then-not-own_frame
unfolding block_at
returns-then-not-own_frame c = search (ons, c.entry_for.ensures, c.in_ok-at.was, c.own_frame.ensures) depth 16

pub returns : goal.returns
unfolding block_at given
returns c = search (ons, c.entry_for.ensures, c.in_ok-at.was, c.own_frame.ensures, c.frame_at-f.ensures, c.blocked_state-state.ensures) depth 32
