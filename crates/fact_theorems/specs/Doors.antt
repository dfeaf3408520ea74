-- The checks of everything that a host asks, with the gauge lent or from C and Rust; and what such an ask leaves of the domains whose keys are
-- freed.
use Rattle.std.specs.Prelude.{Bool, false, List, [], ◌∷◌, eqb, length}
use Rattle.base_rules.specs.Basics.{choose}
use Rattle.base_units.specs.declared.address.Hpa.{Hpa}
use Rattle.book_gauge.specs.{Marks.marks_ok, declared.Gauge.Gauge}
use Rattle.book_ledger.specs.{Sizes.sizes_ok, Tables.Tables}
use Rattle.book_range.specs.Range.{lent_ok}
use Rattle.base_calls.specs.{Answers.number_of, declared.Ask.Ask}
use Rattle.call_host.specs.Calls.{call_of, reset_of}
use Rattle.fact_ownership.specs.Reached.{Lists, left_by}
use Rattle.fact_theorems.specs.{Order.tables, Order.operand, Order.unreadable, Order.Check, Order.check, Checks.all_checks, Checks.reads}

-- "[Reset] answers 13 for sizes or base, else 0." "A mark must be [..]; else 1"; 13 for the tables first
unfoldable pub ask_checks : Hpa → Tables → Gauge → Ask → List Check
ask_checks base t g (Ask.Host c) = all_checks base t g c
ask_checks base t g (Ask.Marks raise clear) = check tables (lent_ok base t) ∷ check operand (marks_ok raise clear (length t.frames)) ∷ []
ask_checks base t g (Ask.Reset) = check tables (sizes_ok base (length t.frames) (length t.domains) (length t.stock) (length t.entries)) ∷ []
ask_checks base t g (Ask.Unreadable) = check unreadable false ∷ []

-- the asks that read something out where they are accepted
unfoldable pub reads_out : Ask → Bool
reads_out (Ask.Host c) = reads c
reads_out (Ask.Marks raise clear) = false
reads_out (Ask.Reset) = false
reads_out (Ask.Unreadable) = false

-- an accepted reset leaves no domain, and so no list
unfoldable pub left_after : Hpa → Tables → Gauge → Ask → Lists → Lists
left_after base t g (Ask.Host c) l = left_by base t c (call_of base t g c) l
left_after base t g (Ask.Marks raise clear) l = l
left_after base t g (Ask.Reset) l = choose (eqb (number_of (reset_of base t g).answer) 0) (λ e. []) l
left_after base t g (Ask.Unreadable) l = l
