use Rattle.base_rules.proofs.Facts.{steps}
use Rattle.base_units.proofs.Differs.{differs}
use Rattle.book_walk.specs.Walk.{own_frame}
use Rattle.book_walk.proofs.own_frame.Goals as goal

pub returns-then-f-entry_type : goal.returns-then-f-entry_type
unfolding own_frame
returns-then-f-entry_type c = search steps depth 12

pub returns-then-ne : goal.returns-then-ne
unfolding own_frame
returns-then-ne c = search (differs, steps) depth 12

pub returns-then-f-ne-EPT : goal.returns-then-f-ne-EPT
unfolding own_frame
returns-then-f-ne-EPT c = search (differs, steps) depth 12

pub returns : goal.returns
unfolding own_frame
returns c = search (differs, steps) depth 12
