-- What a caller in C or Rust is given: the paper's number and values, with the tables and the gauge after them.
use Rattle.base_rules.specs.Basics.{ℕ, given}
use Rattle.base_units.specs.declared.address.Hpa.{Hpa}
use Rattle.book_gauge.specs.declared.Gauge.{Gauge}
use Rattle.book_ledger.specs.Tables.{Tables}
use Rattle.base_calls.specs.{Answers.values_of, declared.Values.Values}
use Rattle.call_host.specs.Calls.{Outcome}
use Rattle.call_run.specs.{Runs.next_of, declared.Run.Run}
use Rattle.door_asks.specs.Asks.{ask_of}
use Rattle.door_requests.specs.{Requests.ask_for, declared.Request.Request}

pub record ReadOut : Type 0 where
  pub values : Values
  pub tables : Tables
  pub gauge : Gauge

abbrev pub handed_out : Values → Tables → Gauge → ReadOut
handed_out v t g = record { values = v; tables = t; gauge = g }

abbrev pub shown : Outcome → ReadOut
shown o = handed_out (values_of o.answer) o.tables o.gauge

unfoldable pub door_of : Hpa → Tables → Gauge → Request → ReadOut
door_of base t g r = shown (ask_of base t g (ask_for r))

-- ---- a run: begin, many requests, and the gauge that it knows at its end

pub record Told : Type 0 where
  pub values : Values
  pub tables : Tables
  pub run : Run

abbrev pub told : Values → Tables → Run → Told
told v t k = record { values = v; tables = t; run = k }

unfoldable pub next_door : Hpa → Tables → Run → Request → Told
next_door base t k r =
    given (ask_for r) λ a.
    given (next_of base t k a) λ n.
    given (values_of n.answer) λ v.
    told v n.tables n.run

-- It goes up whenever a struct, a number or the layout of a lent word changes so that a header and an archive no longer fit.
abbrev pub version : ℕ
version = 3
