use Rattle.std.proofs.Common.{rules}
use borrow.Author.Tests.{tests}
use Rattle.book_range.specs.Range.{rooted_ok, all_records_ok}
use Rattle.base_rules.proofs.Chains.{all_below}
use Rattle.book_range.proofs.all_records_ok.Goals as goal

pub returns : goal.returns
unfolding all_records_ok
returns c = all_below (rooted_ok c.args.s.frames c.args.t.now.domains.now c.args.t.now.stock.now c.args.t.now.entries.now) _ c.all.ensures.ran (cc) (λ x b q k. search (rules, tests))
