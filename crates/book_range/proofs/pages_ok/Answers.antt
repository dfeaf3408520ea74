use Rattle.std.proofs.Common.{rules}
use borrow.Author.Tests.{tests}
use Rattle.book_range.specs.Range.{page_ok, pages_ok}
use Rattle.base_rules.proofs.Chains.{all_below}
use Rattle.book_range.proofs.pages_ok.Goals as goal

pub returns : goal.returns
unfolding pages_ok
returns c = all_below (page_ok c.args.frames c.args.listed c.args.domains.now c.args.rec) _ c.all.ensures.ran (cc) (λ x b q k. search (rules, tests))
