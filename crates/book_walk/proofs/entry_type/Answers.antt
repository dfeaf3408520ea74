use Rattle.base_rules.proofs.Facts.{steps}
use Rattle.book_walk.specs.Walk.{entry_type}
use Rattle.book_walk.proofs.entry_type.Goals as goal

pub returns-then-state-eq-NL_MAPPED : goal.returns-then-state-eq-NL_MAPPED
unfolding entry_type
returns-then-state-eq-NL_MAPPED c = search steps depth 12

pub returns-then-state-eq-NL_BLOCKED : goal.returns-then-state-eq-NL_BLOCKED
unfolding entry_type
returns-then-state-eq-NL_BLOCKED c = search steps depth 12

pub returns : goal.returns
unfolding entry_type
returns c = search steps depth 12
