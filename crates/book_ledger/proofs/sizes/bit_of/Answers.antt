use Rattle.base_rules.proofs.Facts.{steps, rules}
use Rattle.book_ledger.specs.Sizes.{tables_of, bit_of}
use Rattle.book_ledger.proofs.sizes.bit_of.Goals as goal

pub overflow_add-result : goal.overflow_add-result
unfolding tables_of bit_of
overflow_add-result c = search rules

pub returns-then-rec-domains : goal.returns-then-rec-domains
unfolding tables_of bit_of
returns-then-rec-domains c = rw c.tables_of.ensures (search steps)

pub returns : goal.returns
unfolding tables_of bit_of
returns c = search steps depth 12
