use Rattle.base_rules.proofs.Facts.{arith}
use Rattle.door_feed.proofs.Least.{min_least}
use Rattle.door_feed.proofs.advanced.Goals as goal

pub returns : goal.returns
returns c = rw (← min_least) (omega arith)
