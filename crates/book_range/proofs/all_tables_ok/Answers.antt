use Rattle.std.proofs.Common.{rules}
use borrow.Author.Tests.{tests}
use Rattle.book_range.specs.Range.{table_ok, all_tables_ok}
use Rattle.base_rules.proofs.Chains.{all_below}
use Rattle.book_range.proofs.all_tables_ok.Goals as goal

pub returns : goal.returns
unfolding all_tables_ok
returns c = all_below (table_ok c.args.s.frames c.args.t.now.stock.now c.args.t.now.entries.now) _ c.all.ensures.ran (cc) (λ x b q k. search (rules, tests))
