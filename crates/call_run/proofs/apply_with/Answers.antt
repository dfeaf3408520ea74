use Rattle.base_rules.specs.Basics.{◌≡◌}
use Rattle.base_rules.proofs.Facts.{ap}
use Rattle.book_ledger.specs.Tables.{Tables}
use Rattle.call_run.proofs.Arms.{ruled}
use Rattle.call_run.proofs.apply_with.Goals as goal

pub returns-clause-next : goal.returns-clause-next
returns-clause-next c =
    let plan = rw (c.shared-lent.ensures.base, c.shared-lent.ensures.tables) at c.plan_of-p.ensures in
    let frames : c.shared-lent.result.frames.now ≡ c.args.t.now.frames.now = ap (λ (t : Tables). t.frames) c.shared-lent.ensures.tables in
    let used = rw frames at c.used_by-used.ensures in
    ruled _ _ _ _ plan used c.carry-answer.ensures.tables c.gauge_with-gauge.ensures
