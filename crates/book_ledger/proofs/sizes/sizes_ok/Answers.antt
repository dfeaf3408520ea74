use Rattle.base_rules.proofs.Facts.{steps}
use Rattle.book_ledger.specs.Sizes.{sizes_ok}
use Rattle.book_ledger.proofs.sizes.sizes_ok.Goals as goal

pub returns-then-not-base_ok : goal.returns-then-not-base_ok
unfolding sizes_ok
returns-then-not-base_ok c = search steps depth 12

pub returns-then-not-frames_ok : goal.returns-then-not-frames_ok
unfolding sizes_ok
returns-then-not-frames_ok c = search steps depth 12

pub returns-then-not-allow : goal.returns-then-not-allow
unfolding sizes_ok
returns-then-not-allow c = search steps depth 12

pub returns-then-not-allow-2 : goal.returns-then-not-allow-2
unfolding sizes_ok
returns-then-not-allow-2 c = search steps depth 12

pub returns : goal.returns
unfolding sizes_ok
returns c = search steps depth 12
