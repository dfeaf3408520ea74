use Rattle.call_plan.proofs.Ons.{ons}
use Rattle.call_domains.specs.Domains.{new_record}
use Rattle.call_domains.proofs.new_record.Goals as goal

pub returns : goal.returns
unfolding new_record
returns c = search ons depth 16
