use Rattle.base_rules.proofs.Facts.{steps}
use lib.Ieee.{of_bits}
use Rattle.book_gauge.specs.Marks.{marks_ok}
use Rattle.book_gauge.proofs.marks_ok.Goals as goal

pub returns-then-not-is_mark : goal.returns-then-not-is_mark
unfolding marks_ok of_bits
returns-then-not-is_mark c = search steps depth 12

pub returns-then-not-is_mark-2 : goal.returns-then-not-is_mark-2
unfolding marks_ok of_bits
returns-then-not-is_mark-2 c = search steps depth 12

pub returns-then-clear-raise : goal.returns-then-clear-raise
unfolding marks_ok of_bits
returns-then-clear-raise c = search steps depth 12

pub returns : goal.returns
unfolding marks_ok of_bits
returns c = search steps depth 12
