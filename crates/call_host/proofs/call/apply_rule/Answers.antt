use Rattle.base_rules.specs.Basics.{◌≡◌}
use Rattle.base_rules.proofs.Facts.{ap}
use Rattle.book_ledger.specs.Tables.{Tables}
use Rattle.call_host.specs.Calls.{rule_of, settled}
use Rattle.call_host.proofs.call.apply_rule.Goals as goal

pub returns-clause-outcome : goal.returns-clause-outcome
unfolding rule_of settled
returns-clause-outcome c =
    let plan = rw (c.shared.ensures.base, c.shared.ensures.tables) at c.plan_of-p.ensures in
    let frames : c.shared-2.result.frames.now ≡ c.carry-answer.new.t.frames.now = ap (λ (t : Tables). t.frames) c.shared-2.ensures.tables in
    let gauge = rw frames at c.gauge_after-gauge.ensures in
    rw (← plan, ← c.carry-answer.ensures.tables, ← gauge)
