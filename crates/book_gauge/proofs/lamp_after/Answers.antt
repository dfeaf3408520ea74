use Rattle.base_rules.proofs.Facts.{steps}
use Rattle.book_gauge.specs.Update.{lamp_after}
use Rattle.book_gauge.proofs.lamp_after.Goals as goal

pub returns-then-is_raised : goal.returns-then-is_raised
unfolding lamp_after
returns-then-is_raised c = search steps depth 12

pub returns-then-fill-clear : goal.returns-then-fill-clear
unfolding lamp_after
returns-then-fill-clear c = search steps depth 12

pub returns : goal.returns
unfolding lamp_after
returns c = search steps depth 12
