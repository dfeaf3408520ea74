use Rattle.base_rules.specs.Basics.{◌≡◌}
use Rattle.base_rules.proofs.Facts.{ons, given_here, ap, sym}
use Rattle.book_ledger.specs.Tables.{Tables}
use Rattle.call_carry.specs.Carry.{swept_at}
use Rattle.call_carry.proofs.Sweeps.{swept_by}
use Rattle.call_carry.proofs.sweep_record.Goals as goal

pub returns-then-d-w-clause-tables : goal.returns-then-d-w-clause-tables
unfolding swept_at
returns-then-d-w-clause-tables c =
    let e : c.args.t.now.domains.now ≡ c.shared-lent.result.domains.now = ap (λ (t : Tables). t.domains) (sym c.shared-lent.ensures.tables) in
    let p = rw e at c.put_domain.ensures in
    swept_by _ _ c.shared-lent.ensures.tables (search (ons, given_here, c.bit_of.ensures, c.in_use.ensures, c.domain_at-d.ensures, p) depth 24 fits 40000)

pub returns-else-d-w-clause-tables : goal.returns-else-d-w-clause-tables
unfolding swept_at
returns-else-d-w-clause-tables c =
    let e : c.args.t.now.domains.now ≡ c.shared-lent.result.domains.now = ap (λ (t : Tables). t.domains) (sym c.shared-lent.ensures.tables) in
    swept_by _ _ c.shared-lent.ensures.tables (rw e (search (ons, c.bit_of.ensures, c.in_use.ensures, c.domain_at-d.ensures) depth 24))

pub returns-else-in_use-clause-tables : goal.returns-else-in_use-clause-tables
unfolding swept_at
returns-else-in_use-clause-tables c =
    let e : c.args.t.now.domains.now ≡ c.shared-lent.result.domains.now = ap (λ (t : Tables). t.domains) (sym c.shared-lent.ensures.tables) in
    swept_by _ _ c.shared-lent.ensures.tables (rw e (search (ons, c.bit_of.ensures, c.in_use.ensures) depth 24))
