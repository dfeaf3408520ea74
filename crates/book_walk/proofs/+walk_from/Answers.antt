use Rattle.book_walk.proofs.Walks.{walk_step}
use Rattle.base_rules.proofs.Facts.{steps}
use Rattle.book_walk.proofs.+walk_from.Goals as goal

pub returns-then-level-want : goal.returns-then-level-want
returns-then-level-want t c = rw walk_step (search steps depth 12)

pub returns-then-e-ne-NL_MAPPED : goal.returns-then-e-ne-NL_MAPPED
returns-then-e-ne-NL_MAPPED t c = rw walk_step (search steps depth 12)

pub returns-then-not-own_frame : goal.returns-then-not-own_frame
returns-then-not-own_frame t c = rw walk_step (search steps depth 12)

pub returns : goal.returns
returns t c = rw walk_step (search steps depth 12)
