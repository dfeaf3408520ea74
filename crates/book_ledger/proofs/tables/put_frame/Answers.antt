use Rattle.base_rules.proofs.Facts.{set_out}
use Rattle.book_ledger.specs.Tables.{set_frame}
use Rattle.book_ledger.proofs.tables.put_frame.Goals as goal

pub returns-then-at-frames : goal.returns-then-at-frames
unfolding set_frame
returns-then-at-frames c = rw c.from.ensures

pub returns-else-at-frames : goal.returns-else-at-frames
unfolding set_frame
returns-else-at-frames c = rw (set_out _ _ _ c.if-at-frames.false)
