use Rattle.base_rules.proofs.Facts.{steps}
use lib.Ieee.{of_bits, neg}
use Rattle.book_gauge.specs.Marks.{cut_to}
use Rattle.book_gauge.proofs.mark_count.Goals as goal

pub returns-then-k-frames : goal.returns-then-k-frames
unfolding cut_to of_bits neg
returns-then-k-frames c = rw (← c.nearest_u64_to_f64.ensures) (search steps depth 12)

pub returns-then-y-2 : goal.returns-then-y-2
unfolding cut_to of_bits neg
returns-then-y-2 c = rw (← c.nearest_u64_to_f64.ensures) (search steps depth 12)

pub returns-else-y-2 : goal.returns-else-y-2
unfolding cut_to of_bits neg
returns-else-y-2 c = rw (← c.nearest_u64_to_f64.ensures) (search steps depth 12)

pub returns-else-y : goal.returns-else-y
unfolding cut_to of_bits neg
returns-else-y c = rw (← c.nearest_u64_to_f64.ensures) (search steps depth 12)

pub truncating_f64_to_u64-k-requires-clause-lower_bound :
    goal.truncating_f64_to_u64-k-requires-clause-lower_bound
unfolding of_bits neg
truncating_f64_to_u64-k-requires-clause-lower_bound c = rw c.if-y.true tt

pub truncating_f64_to_u64-k-requires-clause-upper_bound :
    goal.truncating_f64_to_u64-k-requires-clause-upper_bound
unfolding of_bits neg
truncating_f64_to_u64-k-requires-clause-upper_bound c = rw c.if-y-2.true tt
