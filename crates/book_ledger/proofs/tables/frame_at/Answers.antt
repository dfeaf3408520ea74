use Rattle.base_rules.proofs.Facts.{rules}
use Rattle.book_ledger.specs.Tables.{frame_at}
use Rattle.book_ledger.proofs.tables.frame_at.Goals as goal

pub returns : goal.returns
unfolding frame_at
returns c = search rules
