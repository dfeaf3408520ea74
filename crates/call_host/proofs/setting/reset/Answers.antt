use Rattle.base_rules.proofs.Facts.{steps}
use Rattle.call_host.specs.Calls.{reset_of}
use Rattle.call_host.proofs.Seen.{sizes_seen}
use Rattle.call_host.proofs.setting.reset.Goals as goal

pub returns-then-not-sizes_ok-clause-outcome : goal.returns-then-not-sizes_ok-clause-outcome
unfolding reset_of
returns-then-not-sizes_ok-clause-outcome c =
    let lent = sizes_seen c.shared.ensures.base c.shared.ensures.tables c.sizes_ok.ensures in search (steps, lent) depth 16

pub returns-clause-outcome : goal.returns-clause-outcome
unfolding reset_of
returns-clause-outcome c =
    let lent = sizes_seen c.shared.ensures.base c.shared.ensures.tables c.sizes_ok.ensures in
    search (steps, lent, c.clear.ensures.tables, c.fresh_gauge.ensures) depth 16
