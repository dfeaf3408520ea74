use Rattle.door_feed.proofs.Least.{min_least}
use Rattle.door_feed.proofs.within.Goals as goal

pub returns-clause-is : goal.returns-clause-is
returns-clause-is c = rw (← min_least) c.min.ensures
