use Rattle.base_rules.proofs.Facts.{rules}
use Rattle.book_stock.proofs.Runs.{run_used, run_ends}
use Rattle.book_stock.proofs.bits.used_run.Goals as goal

pub returns-clause-used : goal.returns-clause-used
returns-clause-used c = search (run_used, rules)

pub returns-clause-ends : goal.returns-clause-ends
returns-clause-ends c = search (run_ends, rules)
