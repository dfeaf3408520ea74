use Rattle.call_plan.proofs.Ons.{ons}
use Rattle.call_pages.specs.Pages.{reclaim_child}
use Rattle.call_pages.proofs.reclaim_child.Goals as goal

pub returns-then-x-ne-TEARDOWN : goal.returns-then-x-ne-TEARDOWN
unfolding reclaim_child
returns-then-x-ne-TEARDOWN c = search ons depth 16

pub returns-then-f-ne-EPT : goal.returns-then-f-ne-EPT
unfolding reclaim_child
returns-then-f-ne-EPT c = search (ons, c.loses.ensures) depth 16

pub returns-then-not-in_use : goal.returns-then-not-in_use
unfolding reclaim_child
returns-then-not-in_use c = search (ons, c.in_use.ensures) depth 16

pub returns : goal.returns
unfolding reclaim_child
returns c = search (ons, c.in_use.ensures, c.loses-2.ensures) depth 16
