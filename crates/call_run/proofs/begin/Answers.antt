use Rattle.base_rules.proofs.Facts.{steps}
use Rattle.call_run.specs.Runs.{begun_of}
use Rattle.call_run.proofs.begin.Goals as goal

pub returns-then-not-lent_ok : goal.returns-then-not-lent_ok
unfolding begun_of
returns-then-not-lent_ok c = search steps depth 16

pub returns : goal.returns
unfolding begun_of
returns c = search steps depth 16
