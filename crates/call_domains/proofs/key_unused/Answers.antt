use Rattle.std.proofs.Common.{rules}
use borrow.Author.Tests.{tests}
use Rattle.base_rules.proofs.Chains.{all_between}
use Rattle.call_domains.specs.Domains.{other_key, key_unused}
use Rattle.call_domains.proofs.key_unused.Goals as goal

pub returns : goal.returns
unfolding key_unused
returns c = all_between (other_key c.args.domains.now c.args.stock.now c.args.first c.args.key) _ _ c.all.ensures.ran (cc) (λ x b q k. search (rules, tests))
