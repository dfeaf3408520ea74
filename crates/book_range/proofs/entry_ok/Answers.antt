use Rattle.base_rules.proofs.Facts.{steps}
use Rattle.book_range.proofs.entry_ok.Goals as goal

pub returns-then-e-gt-PENDING_BLOCKED : goal.returns-then-e-gt-PENDING_BLOCKED
returns-then-e-gt-PENDING_BLOCKED c = search steps depth 12

pub returns-then-e-eq-FREE : goal.returns-then-e-eq-FREE
returns-then-e-eq-FREE c = search steps depth 12

pub returns : goal.returns
returns c = search steps depth 12
