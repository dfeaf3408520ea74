use Rattle.call_plan.proofs.Ons.{ons}
use Rattle.call_domains.specs.Domains.{track_plan}
use Rattle.call_domains.proofs.plan_track.Goals as goal

pub returns-in_err-x : goal.returns-in_err-x
unfolding track_plan
returns-in_err-x c = search (ons, c.find_built.ensures, c.in_err-x.was) depth 16

pub returns-then-x : goal.returns-then-x
unfolding track_plan
returns-then-x c = search (ons, c.find_built.ensures, c.in_ok-x.was) depth 16

pub returns : goal.returns
unfolding track_plan
returns c = search (ons, c.find_built.ensures, c.in_ok-x.was, c.becomes.ensures) depth 16
