-- What a whole line of a script comes to, on any tables and gauge, with its answer written behind what the output has.
use Rattle.std.specs.Prelude.{Option, Some, None}
use Rattle.base_rules.specs.Basics.{ℕ, List}
use Rattle.base_units.specs.declared.address.Hpa.{Hpa}
use Rattle.book_gauge.specs.declared.Gauge.{Gauge}
use Rattle.book_ledger.specs.Tables.{Tables}
use Rattle.call_host.specs.Calls.{call_of}
use Rattle.door_answers.specs.Answers.{Pen, wrote, answer_line, unreadable_line}
use Rattle.door_script.specs.Lines.{line_of}
use Rattle.base_calls.specs.declared.Call.{Call}

-- the tables, the gauge and the output after a line
pub record Replies : Type 0 where
  pub tables : Tables
  pub gauge : Gauge
  pub out : Pen

abbrev pub replied : Tables → Gauge → Pen → Replies
replied t g p = record { tables = t; gauge = g; out = p }

-- an unreadable line answers 15 and changes nothing; another is its call
unfoldable pub on_line : Hpa → Tables → Gauge → ℕ → Pen → Option Call → Replies
on_line base t g n p None = replied t g (wrote (unreadable_line n) p)
on_line base t g n p (Some c) = replied (call_of base t g c).tables (call_of base t g c).gauge (wrote (answer_line n (call_of base t g c).answer) p)

unfoldable pub answered : Hpa → Tables → Gauge → List ℕ → ℕ → Pen → Replies
answered base t g text n p = on_line base t g n p (line_of text)
