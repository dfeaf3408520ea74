use Rattle.base_rules.proofs.Facts.{steps, ne_eqb}
use Rattle.base_units.specs.Limits.{base_ok}
use Rattle.base_units.proofs.limits.base_ok.Goals as goal

pub returns-then-base-eq0 : goal.returns-then-base-eq0
unfolding base_ok
returns-then-base-eq0 c = search steps depth 12

pub returns-else-base-eq0 : goal.returns-else-base-eq0
unfolding base_ok
returns-else-base-eq0 c = search (steps, ne_eqb) depth 12
