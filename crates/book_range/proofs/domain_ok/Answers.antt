use Rattle.base_rules.proofs.Facts.{steps}
use Rattle.book_range.specs.Range.{domain_ok}
use Rattle.book_range.proofs.domain_ok.Goals as goal

pub returns-then-not-allow : goal.returns-then-not-allow
unfolding domain_ok
returns-then-not-allow c = search steps depth 12 fits 20000

pub returns-then-d-gt-WRITTEN_BACK : goal.returns-then-d-gt-WRITTEN_BACK
unfolding domain_ok
returns-then-d-gt-WRITTEN_BACK c = search steps depth 12 fits 20000

pub returns-then-d-gt-RUNNABLE : goal.returns-then-d-gt-RUNNABLE
unfolding domain_ok
returns-then-d-gt-RUNNABLE c = search steps depth 12 fits 20000

pub returns-then-d : goal.returns-then-d
unfolding domain_ok
returns-then-d c = search steps depth 12 fits 20000

pub returns-then-d-frames : goal.returns-then-d-frames
unfolding domain_ok
returns-then-d-frames c = search steps depth 12 fits 20000

pub returns-then-not-allow-2 : goal.returns-then-not-allow-2
unfolding domain_ok
returns-then-not-allow-2 c = search steps depth 12 fits 20000

pub returns : goal.returns
unfolding domain_ok
returns c = search steps depth 12 fits 20000
