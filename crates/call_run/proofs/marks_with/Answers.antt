use Rattle.base_rules.proofs.Facts.{steps}
use Rattle.call_run.specs.Runs.{marks_with}
use Rattle.call_run.proofs.marks_with.Goals as goal

pub returns-then-not-r : goal.returns-then-not-r
unfolding marks_with
returns-then-not-r c = rw c.refuses.ensures (search steps depth 16)

pub returns-then-not-marks_ok : goal.returns-then-not-marks_ok
unfolding marks_with
returns-then-not-marks_ok c = rw c.refuses-then-not-marks_ok.ensures (search steps depth 16)

pub returns : goal.returns
unfolding marks_with
returns c = search steps depth 16
