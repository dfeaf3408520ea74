use Rattle.std.proofs.Common.{◌-◌, ◌≡◌}
use Rattle.book_stock.specs.Bits.{lowest_from, lowest_unused}
use Rattle.book_stock.proofs.bits.lowest_unused.Given as goal

abbrev pub invariant-loop-block : goal.invariant-loop-block
invariant-loop-block l = lowest_unused l.stock l.from l.to ≡ lowest_from l.stock l.block (l.to - l.block)

abbrev pub decreases-loop-block : goal.decreases-loop-block
decreases-loop-block l = l.to - l.block
