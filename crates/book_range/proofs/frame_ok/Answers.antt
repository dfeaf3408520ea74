use Rattle.base_rules.proofs.Facts.{steps}
use Rattle.book_range.proofs.frame_ok.Goals as goal

pub returns-then-owner-l : goal.returns-then-owner-l
returns-then-owner-l c = search steps depth 12

pub returns-then-f-l : goal.returns-then-f-l
returns-then-f-l c = search steps depth 12

pub returns-then-f-l-2 : goal.returns-then-f-l-2
returns-then-f-l-2 c = search steps depth 12

pub returns : goal.returns
returns c = search steps depth 12
