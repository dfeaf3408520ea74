use Rattle.base_rules.proofs.Facts.{steps}
use Rattle.call_run.specs.Runs.{host_with}
use Rattle.call_run.proofs.host_with.Goals as goal

pub returns-then-not-r-clause-next : goal.returns-then-not-r-clause-next
unfolding host_with
returns-then-not-r-clause-next c = rw c.refuses.ensures (search steps depth 16)

pub returns-then-not-r-2-clause-next : goal.returns-then-not-r-2-clause-next
unfolding host_with
returns-then-not-r-2-clause-next c = rw c.refuses-then-not-r-2.ensures (search steps depth 16)

pub returns-clause-next : goal.returns-clause-next
unfolding host_with
returns-clause-next c = search (steps, c.apply_with.ensures.next) depth 16
