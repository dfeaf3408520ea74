use Rattle.call_plan.proofs.Ons.{ons}
use Rattle.call_adds.specs.Adds.{add_table_at}
use Rattle.call_adds.proofs.sept_at.Goals as goal

pub returns-in_err-at : goal.returns-in_err-at
unfolding add_table_at
returns-in_err-at c = search (ons, c.free_for.ensures, c.in_err-at.was) depth 16

pub returns-in_default : goal.returns-in_default
unfolding add_table_at
returns-in_default c = search (ons, c.free_for.ensures, c.in_ok-at.was, c.tables.ensures, c.lowest_unused.ensures, c.in_default.ensures) depth 16

pub returns : goal.returns
unfolding add_table_at
returns c = search (ons, c.free_for.ensures, c.in_ok-at.was, c.tables.ensures, c.lowest_unused.ensures, c.hangs.ensures) depth 16
