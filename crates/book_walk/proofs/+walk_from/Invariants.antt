-- The walk calls itself on the level below: the measure is the level.
use Rattle.book_walk.proofs.+walk_from.Given as goal

abbrev pub decreases-walk_from : goal.decreases-walk_from
decreases-walk_from l = l.level
