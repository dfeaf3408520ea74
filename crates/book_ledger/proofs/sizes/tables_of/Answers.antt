use Rattle.book_ledger.specs.Sizes.{tables_of}
use Rattle.base_rules.proofs.Facts.{steps}
use Rattle.book_ledger.proofs.sizes.tables_of.Goals as goal

pub returns : goal.returns
unfolding tables_of
returns c = search steps depth 12
