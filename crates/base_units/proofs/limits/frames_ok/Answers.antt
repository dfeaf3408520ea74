use Rattle.base_rules.proofs.Facts.{steps, ne_eqb}
use Rattle.base_units.specs.Limits.{frames_ok}
use Rattle.base_units.proofs.limits.frames_ok.Goals as goal

pub returns-then-frames-eq1 : goal.returns-then-frames-eq1
unfolding frames_ok
returns-then-frames-eq1 c = search steps depth 12

pub returns-else-frames-eq1 : goal.returns-else-frames-eq1
unfolding frames_ok
returns-else-frames-eq1 c = search (steps, ne_eqb) depth 12
