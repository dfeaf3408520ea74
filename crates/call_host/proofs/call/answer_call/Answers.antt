use Rattle.base_rules.proofs.Facts.{steps}
use Rattle.call_host.specs.Calls.{call_of}
use Rattle.call_host.proofs.call.answer_call.Goals as goal

pub returns-then-not-lent_ok-clause-outcome : goal.returns-then-not-lent_ok-clause-outcome
unfolding call_of
returns-then-not-lent_ok-clause-outcome c =
    let lent = rw (c.shared.ensures.base, c.shared.ensures.tables) at c.lent_ok.ensures in search (steps, lent) depth 16

pub returns-then-not-marks_ok-clause-outcome : goal.returns-then-not-marks_ok-clause-outcome
unfolding call_of
returns-then-not-marks_ok-clause-outcome c =
    let lent = rw (c.shared.ensures.base, c.shared.ensures.tables) at c.lent_ok.ensures in search (steps, lent) depth 16

pub returns-clause-outcome : goal.returns-clause-outcome
unfolding call_of
returns-clause-outcome c =
    let lent = rw (c.shared.ensures.base, c.shared.ensures.tables) at c.lent_ok.ensures in search (steps, lent) depth 16
