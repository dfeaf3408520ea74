use Rattle.call_plan.proofs.Ons.{ons}
use Rattle.call_domains.specs.Domains.{enlist_at}
use Rattle.call_domains.proofs.enlists.Goals as goal

pub returns-then-x-ne-CONFIGURED : goal.returns-then-x-ne-CONFIGURED
unfolding enlist_at
returns-then-x-ne-CONFIGURED c = search ons depth 16

pub returns-then-x : goal.returns-then-x
unfolding enlist_at
returns-then-x c = search ons depth 16

pub returns-then-not-is_nda : goal.returns-then-not-is_nda
unfolding enlist_at
returns-then-not-is_nda c = search (ons, c.is_nda.ensures) depth 16

pub returns : goal.returns
unfolding enlist_at
returns c = search (ons, c.is_nda.ensures, c.gains.ensures) depth 16
