-- What each ask of a host comes to, on any lent tables and gauge.
use Rattle.std.specs.Prelude.{Err}
use Rattle.base_units.specs.declared.address.Hpa.{Hpa}
use Rattle.book_gauge.specs.declared.Gauge.{Gauge}
use Rattle.book_ledger.specs.Tables.{Tables}
use Rattle.base_calls.specs.{declared.Refusal.TheVariants.No, declared.Fault.Fault, declared.Ask.Ask, Operands.NONE}
use Rattle.call_host.specs.Calls.{Outcome, outcome, call_of, marks_of, reset_of}

-- an ask that names nothing is as unreadable as an unknown name in a script: 15, and nothing changes
unfoldable pub ask_of : Hpa → Tables → Gauge → Ask → Outcome
ask_of base t g (Ask.Host c) = call_of base t g c
ask_of base t g (Ask.Marks raise clear) = marks_of base t g raise clear
ask_of base t g (Ask.Reset) = reset_of base t g
ask_of base t g (Ask.Unreadable) = outcome (Err (No Fault.Unreadable NONE)) t g
