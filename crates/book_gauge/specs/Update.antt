-- What becomes of a gauge.
use Rattle.base_rules.specs.Basics.{Bool, true, false, ℕ, choose}
use lib.{IntN.pos, Ieee.Float, Ieee.fin, Ieee.le, Ieee.lt}
use Rattle.book_gauge.specs.{declared.Gauge.Gauge, Fill.ratio, Marks.zero_mark}

-- "at or above raise it lights the lamp, below clear it puts it out, otherwise the lamp stays"
unfoldable pub lamp_after : Float → Float → Float → Bool → Bool
lamp_after raise clear fill was = choose (le raise fill) true (choose (lt fill clear) false was)

-- "An accepted call stores the new fill" and the lamp
abbrev pub after : Gauge → ℕ → ℕ → Gauge
after g used frames = record {
  raise = g.raise;
  clear = g.clear;
  fill = ratio used frames;
  lamp = lamp_after g.raise g.clear (ratio used frames) g.lamp;
}

-- "Setting the marks stores them and the fill, and lights it exactly if fill is at or above raise; it reads nothing of the old gauge"
abbrev pub with_marks : Float → Float → ℕ → ℕ → Gauge
with_marks raise clear used frames = record { raise = raise; clear = clear; fill = ratio used frames; lamp = le raise (ratio used frames) }

-- "Reset: fill +0, lamp out, raise mark 1, clear mark 0."
abbrev pub fresh_gauge : Gauge
fresh_gauge = record { raise = fin false 1 (pos 0); clear = zero_mark; fill = fin false 0 (pos 0); lamp = false }
