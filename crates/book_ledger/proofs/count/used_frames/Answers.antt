use Rattle.base_rules.proofs.Facts.{sub-zero, zero-add, arith, sum_step, sum_end}
use Rattle.book_ledger.specs.Count.{used_frames}
use Rattle.book_ledger.proofs.count.used_frames.Goals as goal

pub loop-n-init : goal.loop-n-init
unfolding used_frames
loop-n-init c = (omega arith, rw (sub-zero, zero-add))

pub loop-n-preserved : goal.loop-n-preserved
unfolding used_frames
loop-n-preserved c = (omega arith, rw (c.loop-n.invariant.1, sum_step _ _ _ c.loop-n-test.true, ← c.one_used-used.ensures.is) (omega arith))

pub returns : goal.returns
unfolding used_frames
returns c = rw (c.loop-n.invariant.1, sum_end _ _ _ c.loop-n-test.false) (omega arith)
