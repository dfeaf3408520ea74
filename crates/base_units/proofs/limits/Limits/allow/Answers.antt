use Rattle.base_units.proofs.Ranges.{range_between}
use Rattle.base_units.proofs.limits.Limits.allow.Goals as goal

pub returns : goal.returns
returns c = let r = c.new.ensures in rw (c.contains.ensures.value, r.start, r.end, r.exhausted) (range_between _ _ _)
