use Rattle.call_plan.proofs.Ons.{ons}
use Rattle.call_domains.specs.Domains.{life_plan}
use Rattle.call_domains.proofs.plan_life.Goals as goal

pub returns-in_err-x : goal.returns-in_err-x
unfolding life_plan
returns-in_err-x c = search (ons, c.find_parties.ensures, c.in_err-x.was) depth 16

pub returns-then-not-allow : goal.returns-then-not-allow
unfolding life_plan
returns-then-not-allow c = search (ons, c.find_parties.ensures, c.in_ok-x.was, c.allow.ensures) depth 16

pub returns : goal.returns
unfolding life_plan
returns c = search (ons, c.find_parties.ensures, c.in_ok-x.was, c.allow.ensures, c.becomes.ensures) depth 16
