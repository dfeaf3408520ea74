-- A run of everything that a host asks (calls, marks, resets), checked once at its start, and beside it single asks one after the other.
use Rattle.std.specs.Prelude.{◌≡◌, false, List, [], ◌∷◌, length, ◌⊎◌}
use Rattle.base_rules.specs.Basics.{given}
use Rattle.base_units.specs.declared.address.Hpa.{Hpa}
use Rattle.book_gauge.specs.{Marks.marks_ok, declared.Gauge.Gauge}
use Rattle.book_ledger.specs.Tables.{Tables}
use Rattle.book_range.specs.Range.{lent_ok}
use Rattle.base_calls.specs.declared.{Ask.Ask, Ask.TheVariants.Host, Call.Call}
use Rattle.call_run.specs.{Runs.begun_of, Runs.next_of, declared.Run.Run}
use Rattle.door_asks.specs.Asks.{ask_of}
use Rattle.fact_keeps.specs.Runs.{Ran, ran, and_then}

-- single asks
unfoldable pub ask_fold : Hpa → Tables → Gauge → List Ask → Ran
ask_fold base t g [] = ran [] t g
ask_fold base t g (a ∷ l) = given (ask_of base t g a) λ o. and_then o.answer (ask_fold base o.tables o.gauge l)

-- the asks of a run that knows r
unfoldable pub asks_from : Hpa → Tables → Run → List Ask → Ran
asks_from base t r [] = ran [] t r.gauge
asks_from base t r (a ∷ l) = given (next_of base t r a) λ n. and_then n.answer (asks_from base n.tables n.run l)

-- one check of the tables and of the gauge's marks, then the asks
unfoldable pub once_of : Hpa → Tables → Gauge → List Ask → Ran
once_of base t g l = given (begun_of base t g) λ r. asks_from base t r l

-- where the check fails: each call answers 13
abbrev pub Fails : Hpa → Tables → Gauge → Type 0
Fails base t g = (lent_ok base t ≡ false) ⊎ (marks_ok g.raise g.clear (length t.frames) ≡ false)

unfoldable pub hosts : List Call → List Ask
hosts [] = []
hosts (c ∷ cs) = Host c ∷ hosts cs
