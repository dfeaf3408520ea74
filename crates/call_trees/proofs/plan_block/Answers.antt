use Rattle.call_plan.proofs.Ons.{ons}
use Rattle.call_trees.specs.Trees.{block_plan}
use Rattle.call_trees.proofs.plan_block.Goals as goal

pub returns-in_err-x : goal.returns-in_err-x
unfolding block_plan
returns-in_err-x c = search (ons, c.find_live.ensures, c.in_err-x.was) depth 16

pub returns : goal.returns
unfolding block_plan
returns c = search (ons, c.find_live.ensures, c.in_ok-x.was, c.block_at.ensures) depth 16
