use Rattle.std.proofs.Common.{rules}
use borrow.Author.Tests.{tests}
use Rattle.base_rules.proofs.Chains.{all_below}
use Rattle.call_plan.specs.Entries.{free_at, table_empty}
use Rattle.call_plan.proofs.entry.table_empty.Goals as goal

pub returns : goal.returns
unfolding table_empty
returns c = all_below (free_at c.args.entries.now c.args.block) _ c.all.ensures.ran (cc) (λ x b q k. search (rules, tests))
