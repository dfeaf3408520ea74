use Rattle.book_ledger.specs.Sizes.{sizes_of}
use Rattle.book_ledger.proofs.sizes.sizes_of.Goals as goal

pub returns : goal.returns
unfolding sizes_of
returns c = rw c.tables_of.ensures
