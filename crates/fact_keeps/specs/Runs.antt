-- A run of calls that checks its tables and marks once, and carries the count of used frames along by value.
use Rattle.std.specs.Prelude.{ℕ, ◌+◌, ◌-◌, List, [], ◌∷◌, length, eqb, Some, None, Ok, Err}
use Rattle.base_rules.specs.Basics.{choose, need, given}
use Rattle.base_units.specs.declared.address.Hpa.{Hpa}
use Rattle.book_gauge.specs.{Marks.marks_ok, Update.after, declared.Gauge.Gauge}
use Rattle.book_ledger.specs.{Codes.NDA, Count.one_used, Count.used_frames, Tables.Tables, declared.words.Frame.Frame}
use Rattle.book_range.specs.Range.{lent_ok}
use Rattle.base_calls.specs.{Answers.values_of, declared.Call.Call, Operands.NONE, Answers.Answer, declared.Refusal.TheVariants.No}
use Rattle.call_carry.specs.Carry.{carried}
use Rattle.call_host.specs.Calls.{Outcome, outcome, plan_of, call_of}
use Rattle.call_plan.specs.Edits.{FrameEdit, Plan}
use Rattle.call_plan.specs.declared.edit.Deed.TheVariants.{Do, Each, Tell}
use Rattle.base_calls.specs.declared.Fault.{Fault}

-- ---- the count, carried by value: less one if the frame was used, one more if it is now

unfoldable pub is_used : Frame → ℕ
is_used f = choose (eqb f.kind NDA) 0 1

unfoldable pub used_after : FrameEdit → List ℕ → ℕ → ℕ
used_after None fs used = used
used_after (Some (n, f)) fs used = used - one_used fs n.0 + is_used f

unfoldable pub used_by : Plan → Tables → ℕ → ℕ
used_by (Err r) t used = used
used_by (Ok (Tell r)) t used = used
used_by (Ok (Do e)) t used = used_after e.frame t.frames used
used_by (Ok (Each w)) t used = used

-- ---- a call's own rule with the count carried: `rule_of`, and the count for the next call

pub record Step : Type 0 where
  pub outcome : Outcome
  pub used : ℕ

-- `gauge_after`, with the count by value
unfoldable pub gauge_with : Gauge → Answer → ℕ → ℕ → Gauge
gauge_with g a used frames =
    given (values_of a) λ v.
    choose (eqb v.number 0) (after g used frames) g

unfoldable pub rule_with : Hpa → Tables → Gauge → ℕ → Call → Step
rule_with base t g used c =
    given (plan_of base t c) λ p.
    given (used_by p t used) λ now.
    given (carried t p) λ k.
    record { outcome = outcome k.answer k.tables (gauge_with g k.answer now (length t.frames)); used = now }

-- ---- a run: every answer with what is read out, in order, and the tables and the gauge at its end

pub record Ran : Type 0 where
  pub answers : List Answer
  pub tables : Tables
  pub gauge : Gauge

abbrev pub ran : List Answer → Tables → Gauge → Ran
ran l t g = record { answers = l; tables = t; gauge = g }

abbrev pub and_then : Answer → Ran → Ran
and_then a r = ran (a ∷ r.answers) r.tables r.gauge

-- one call after the other, each with its own answer 13
unfoldable pub fold_of : Hpa → Tables → Gauge → List Call → Ran
fold_of base t g [] = ran [] t g
fold_of base t g (c ∷ cs) = given (call_of base t g c) λ o. and_then o.answer (fold_of base o.tables o.gauge cs)

-- one rule after the other, with no answer 13
unfoldable pub run_from : Hpa → Tables → Gauge → ℕ → List Call → Ran
run_from base t g used [] = ran [] t g
run_from base t g used (c ∷ cs) =
    given (rule_with base t g used c) λ s.
    and_then s.outcome.answer (run_from base s.outcome.tables s.outcome.gauge s.used cs)

-- each call answered 13
unfoldable pub all_refused : List Call → List Answer
all_refused [] = []
all_refused (c ∷ cs) = Err (No Fault.Range NONE) ∷ all_refused cs

-- the lent tables and the lent gauge's marks once, then every call's own rule
unfoldable pub run_of : Hpa → Tables → Gauge → List Call → Ran
run_of base t g cs =
    need (lent_ok base t) (ran (all_refused cs) t g) (
    need (marks_ok g.raise g.clear (length t.frames)) (ran (all_refused cs) t g) (
    given (used_frames t.frames) λ used.
    run_from base t g used cs))
