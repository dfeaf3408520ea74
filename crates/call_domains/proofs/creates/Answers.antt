use Rattle.call_plan.proofs.Ons.{ons}
use Rattle.call_domains.specs.Domains.{create_at}
use Rattle.call_domains.proofs.creates.Goals as goal

pub returns-then-not-is_nda : goal.returns-then-not-is_nda
unfolding create_at
returns-then-not-is_nda c = search (ons, c.is_nda.ensures) depth 16

pub returns-then-not-key_unused : goal.returns-then-not-key_unused
unfolding create_at
returns-then-not-key_unused c = search (ons, c.key_unused.ensures) depth 16

pub returns-in_default : goal.returns-in_default
unfolding create_at
returns-in_default c = search (ons, c.lowest_unused.ensures, c.in_default.is) depth 24

pub returns : goal.returns
unfolding create_at
returns c = search (ons, c.lowest_unused.ensures, c.in-Some.is, c.saturating_sub-rec.ensures, c.root_of.ensures, c.new_record.ensures) depth 40 fits 40000
