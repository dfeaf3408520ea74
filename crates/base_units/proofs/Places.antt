-- Within the limits nothing wraps: an hpa is base + 4096 times the frame number.
use Rattle.base_rules.specs.Basics.{◌≡◌, true, ◌+◌, ◌*◌, ◌^◌, ◌<◌}
use Rattle.base_rules.proofs.Facts.{arith, leb-true, both_right}
use Rattle.base_units.specs.{Address.hpa_of, Limits.between, Limits.base_ok, Limits.frames_most, declared.address.Hpa.Hpa, declared.address.Pfn.Pfn}

pub hpa_exact : (base : Hpa) (n : Pfn) → base_ok base ≡ true → n.0 < frames_most → (hpa_of base n).0 ≡ base.0 + 4096 * n.0
unfolding hpa_of base_ok between
hpa_exact base n b h = omega (arith, leb-true base.0 (2 ^ 46) (both_right _ _ (both_right _ _ b)))
