-- Document 02, request 2, "Building a domain needs no tracking", said of the answers: while D's op state is initialized, none of the three calls that ask
-- for a tracked entry answers 8, on tables of any contents.
use Rattle.std.specs.Prelude.{ℕ, ◌≡◌}
use Rattle.base_units.specs.declared.address.{Hpa.Hpa, Gpa.Gpa}
use Rattle.book_gauge.specs.declared.Gauge.{Gauge}
use Rattle.book_ledger.specs.{Codes.INITIALIZED, Tables.Tables}
use Rattle.base_calls.specs.{Answers.number_of, declared.Call.Call}
use Rattle.call_host.specs.Calls.{call_of}
use Rattle.fact_theorems.specs.Checks.{domain_at_hpa}

module _ (base : Hpa) (t : Tables) (g : Gauge) where
  abbrev pub NotEight : Call → Type 0
  NotEight c = number_of (call_of base t g c).answer ≡ 8 → ⊥

  pub record Building (d : Hpa) : Type 0 where
    pub unblock : (gpa : Gpa) (level : ℕ) → NotEight (Call.Unblock d gpa level)
    pub pageremove : (gpa : Gpa) → NotEight (Call.PageRemove d gpa)
    pub septremove : (gpa : Gpa) (level : ℕ) → NotEight (Call.SeptRemove d gpa level)

  abbrev pub NoTracking : Type 0
  NoTracking = (d : Hpa) → (domain_at_hpa base t d).dom.op ≡ INITIALIZED → Building d
