use Rattle.base_rules.proofs.Facts.{refl, ◌∙◌}
use Rattle.book_stock.specs.Bits.{lowest_unused}
use Rattle.book_stock.proofs.Runs.{turn_past, turn_end, turn_at, turn_done}
use Rattle.book_stock.proofs.bits.lowest_unused.Goals as goal

pub loop-block-init : goal.loop-block-init
unfolding lowest_unused
loop-block-init c = refl

pub returns-then-used-eq0 : goal.returns-then-used-eq0
unfolding lowest_unused
returns-then-used-eq0 c = rw (c.loop-block.invariant, turn_at _ _ _ c.loop-block-test.true (c.used_run-used.ensures.ends c.if-used-eq0.true))

pub returns-then-to-block : goal.returns-then-to-block
unfolding lowest_unused
returns-then-to-block c = rw (c.loop-block.invariant, turn_end _ _ _ _ c.if-to-block.true c.used_run-used.ensures.used)

pub loop-block-preserved : goal.loop-block-preserved
unfolding lowest_unused
loop-block-preserved c = c.loop-block.invariant ∙ turn_past _ _ _ _ c.if-to-block.false c.used_run-used.ensures.used

pub returns : goal.returns
unfolding lowest_unused
returns c = rw (c.loop-block.invariant, turn_done _ _ _ c.loop-block-test.false)
