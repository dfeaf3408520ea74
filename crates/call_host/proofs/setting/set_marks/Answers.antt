use Rattle.base_rules.proofs.Facts.{steps}
use Rattle.call_host.specs.Calls.{marks_of}
use Rattle.call_host.proofs.setting.set_marks.Goals as goal

pub returns-then-not-lent_ok : goal.returns-then-not-lent_ok
unfolding marks_of
returns-then-not-lent_ok c = search steps depth 16

pub returns-then-not-marks_ok : goal.returns-then-not-marks_ok
unfolding marks_of
returns-then-not-marks_ok c = search steps depth 16

pub returns : goal.returns
unfolding marks_of
returns c = search steps depth 16
