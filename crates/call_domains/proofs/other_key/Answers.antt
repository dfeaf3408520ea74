use Rattle.call_plan.proofs.Ons.{ons}
use Rattle.call_domains.specs.Domains.{other_key}
use Rattle.call_domains.proofs.other_key.Goals as goal

pub returns-then-not-in_use : goal.returns-then-not-in_use
unfolding other_key
returns-then-not-in_use c = search (ons, c.in_use.ensures) depth 16

pub returns-then-d-key : goal.returns-then-d-key
unfolding other_key
returns-then-d-key c = search (ons, c.in_use.ensures, c.saturating_sub.ensures, c.domain_at-d.ensures) depth 16

pub returns : goal.returns
unfolding other_key
returns c = search (ons, c.in_use.ensures, c.saturating_sub.ensures, c.domain_at-d.ensures) depth 16
