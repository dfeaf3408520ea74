use Rattle.call_plan.proofs.Ons.{ons}
use Rattle.call_plan.specs.Lookup.{built_for}
use Rattle.call_plan.proofs.lookup.find_built.Goals as goal

pub returns-in_err-x : goal.returns-in_err-x
unfolding built_for
returns-in_err-x c = search (ons, c.find_parties.ensures, c.in_err-x.was) depth 16

pub returns-then-x-ne-CONFIGURED : goal.returns-then-x-ne-CONFIGURED
unfolding built_for
returns-then-x-ne-CONFIGURED c = search (ons, c.find_parties.ensures, c.in_ok-x.was) depth 16

pub returns-then-x : goal.returns-then-x
unfolding built_for
returns-then-x c = search (ons, c.find_parties.ensures, c.in_ok-x.was) depth 16

pub returns-then-not-allow : goal.returns-then-not-allow
unfolding built_for
returns-then-not-allow c = search (ons, c.find_parties.ensures, c.in_ok-x.was, c.allow.ensures) depth 16

pub returns : goal.returns
unfolding built_for
returns c = search (ons, c.find_parties.ensures, c.in_ok-x.was, c.allow.ensures) depth 16
