use Rattle.book_ledger.specs.Sizes.{bit_of, root_of}
use Rattle.book_ledger.proofs.sizes.root_of.Goals as goal

pub returns : goal.returns
unfolding bit_of root_of
returns c = c.bit_of.ensures
