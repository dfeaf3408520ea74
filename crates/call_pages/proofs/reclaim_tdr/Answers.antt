use Rattle.call_plan.proofs.Ons.{ons}
use Rattle.call_pages.specs.Pages.{reclaim_tdr}
use Rattle.call_pages.proofs.reclaim_tdr.Goals as goal

pub returns-then-x-ne-TEARDOWN : goal.returns-then-x-ne-TEARDOWN
unfolding reclaim_tdr
returns-then-x-ne-TEARDOWN c = search ons depth 16

pub returns-then-x-ne0 : goal.returns-then-x-ne0
unfolding reclaim_tdr
returns-then-x-ne0 c = search ons depth 16

pub returns : goal.returns
unfolding reclaim_tdr
returns c = search ons depth 16
