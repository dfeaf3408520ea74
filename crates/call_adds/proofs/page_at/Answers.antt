use Rattle.call_plan.proofs.Ons.{ons}
use Rattle.call_adds.specs.Adds.{add_page_at}
use Rattle.call_adds.proofs.page_at.Goals as goal

pub returns-in_err-at : goal.returns-in_err-at
unfolding add_page_at
returns-in_err-at c = search (ons, c.free_for.ensures, c.in_err-at.was) depth 16

pub returns : goal.returns
unfolding add_page_at
returns c = search (ons, c.free_for.ensures, c.in_ok-at.was, c.hangs.ensures) depth 16
