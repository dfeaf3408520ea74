use Rattle.call_plan.proofs.Ons.{ons}
use Rattle.call_trees.specs.Trees.{readentry_at}
use Rattle.call_trees.proofs.readentry_at.Goals as goal

pub returns-in_err-at : goal.returns-in_err-at
unfolding readentry_at
returns-in_err-at c = search (ons, c.walk_of.ensures, c.in_err-at.was) depth 16

pub returns-then-e-eq-FREE : goal.returns-then-e-eq-FREE
unfolding readentry_at
returns-then-e-eq-FREE c = search (ons, c.walk_of.ensures, c.in_ok-at.was, c.entry_at-e.ensures) depth 16

pub returns : goal.returns
unfolding readentry_at
returns c = search (ons, c.walk_of.ensures, c.in_ok-at.was, c.entry_at-e.ensures, c.hpa_of-hpa.ensures) depth 16
