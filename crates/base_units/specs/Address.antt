-- Which frame an hpa names, and which hpa a frame has.
use Rattle.std.specs.Prelude.{Option, Some, None, ℕ, ◌+◌, ◌-◌, ◌*◌, ◌/◌, ◌%◌, ◌^◌, ltb, leb, eqb}
use Rattle.base_rules.specs.Basics.{need}
use Rattle.base_units.specs.Limits.{frame_bytes}
use Rattle.base_units.specs.declared.address.{Hpa.Hpa, Pfn.Pfn}

-- answer 1: "an hpa unaligned or outside the window". The base is a multiple of a frame's bytes, so the hpa's own alignment is the question.
unfoldable pub frame_of : Hpa → ℕ → Hpa → Option Pfn
frame_of base frames hpa =
    need (eqb (hpa.0 % frame_bytes) 0) None (
    need (leb base.0 hpa.0) None (
    need (ltb ((hpa.0 - base.0) / frame_bytes) frames) None
    (Some (record { 0 = (hpa.0 - base.0) / frame_bytes }))))

-- "An hpa is base + 4096 times the frame's number in the window", a number of 64 bits
unfoldable pub hpa_of : Hpa → Pfn → Hpa
hpa_of base frame = record { 0 = (base.0 + frame_bytes * frame.0) % 2 ^ 64 }
