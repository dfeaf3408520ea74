use Rattle.base_rules.specs.Basics.{ℕ}
use Rattle.base_rules.proofs.Facts.{arith, ap}
use Rattle.base_units.specs.Address.{hpa_of}
use Rattle.base_units.proofs.address.hpa_of.Goals as goal

pub returns : goal.returns
unfolding hpa_of
returns c = ap (λ (n : ℕ). record { 0 = n }) (omega (arith, c.wrapping_add_u64.ensures))
