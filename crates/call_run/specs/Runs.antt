-- Request 11: "A run of calls on tables that nobody else touches in between may check once at its start." What a run knows from that check on, and
-- what each ask then comes to: answer 13 is read off what is known, and the count of used frames goes along by value.
use Rattle.std.specs.Prelude.{ℕ, ◌+◌, ◌-◌, ◌^◌, min, true, false, List, length, eqb, Float, Some, None, Ok, Err}
use Rattle.base_rules.specs.Basics.{choose, need, given}
use Rattle.base_units.specs.declared.address.Hpa.{Hpa}
use Rattle.book_gauge.specs.{Marks.marks_ok, Update.after, Update.with_marks, declared.Gauge.Gauge}
use Rattle.book_ledger.specs.{Count.is_used, Count.one_used, Count.used_frames, Tables.Tables}
use Rattle.book_range.specs.Range.{lent_ok}
use Rattle.base_calls.specs.{Answers.Answer, Answers.values_of, Operands.NONE}
use Rattle.base_calls.specs.declared.{Reading.TheVariants.Done, Refusal.TheVariants.No, Fault.Fault, Ask.Ask, Call.Call}
use Rattle.call_plan.specs.declared.edit.{Deed.TheVariants.Tell, Deed.TheVariants.Do, Deed.TheVariants.Each}
use Rattle.call_plan.specs.Edits.{FrameEdit, Plan}
use Rattle.call_carry.specs.Carry.{carried}
use Rattle.call_host.specs.Calls.{plan_of, reset_of}
use Rattle.call_run.specs.declared.{Run.Run, Ran.Ran}

-- ---- the count of used frames: less one if the frame was used, one more if it is now

-- no count of lent frames comes near 2 ^ 64; one that a caller makes up stays there
abbrev pub count_most : ℕ
count_most = 2 ^ 64 - 1

unfoldable pub counted : ℕ → ℕ → ℕ → ℕ
counted used was is = min (used - was + is) count_most

unfoldable pub used_after : FrameEdit → List ℕ → ℕ → ℕ
used_after None fs used = used
used_after (Some (n, f)) fs used =
    given (one_used fs n.0) λ was.
    given (is_used f) λ is.
    counted used was is

unfoldable pub used_by : Plan → List ℕ → ℕ → ℕ
used_by (Err r) fs used = used
used_by (Ok (Tell r)) fs used = used
used_by (Ok (Do e)) fs used = used_after e.frame fs used
used_by (Ok (Each w)) fs used = used

-- ---- what a run knows: the gauge, the count, whether the tables passed answer 13's check, and whether the gauge's marks did

abbrev pub knows : Gauge → ℕ → Run
knows g used = record { gauge = g; used = used; lent = true; marked = true }

-- the check at the start; where the tables don't pass nothing more is looked at
unfoldable pub begun_of : Hpa → Tables → Gauge → Run
begun_of base t g =
    need (lent_ok base t) (record { gauge = g; used = 0; lent = false; marked = false }) (
    given (used_frames t.frames) λ used.
    given (marks_ok g.raise g.clear (length t.frames)) λ ok.
    record { gauge = g; used = used; lent = true; marked = ok })

-- ---- an ask within a run: its answer with what is read out, the tables, and what the run knows then

pub record Next : Type 0 where
  pub answer : Answer
  pub tables : Tables
  pub run : Run

abbrev pub next : Answer → Tables → Run → Next
next a t r = record { answer = a; tables = t; run = r }

-- an ask of a run refused
abbrev pub refused : Run → Fault → Ran
refused r w = record { answer = Err (No w NONE); run = r }

-- "An accepted call stores the new fill", the count being `used` then
unfoldable pub gauge_with : Gauge → Answer → ℕ → ℕ → Gauge
gauge_with g a used frames =
    given (values_of a) λ v.
    choose (eqb v.number 0) (after g used frames) g

-- a call's own rule, without answer 13
unfoldable pub rule_with : Hpa → Tables → Run → Call → Next
rule_with base t r c =
    given (plan_of base t c) λ p.
    given (used_by p t.frames r.used) λ used.
    given (carried t p) λ k.
    given (gauge_with r.gauge k.answer used (length k.tables.frames)) λ g.
    next k.answer k.tables (record { gauge = g; used = used; lent = r.lent; marked = r.marked })

-- what a reset that was accepted leaves, and one that wasn't
unfoldable pub known_reset : Run → Answer → Gauge → Run
known_reset r a g = given (values_of a) λ v. choose (eqb v.number 0) (knows g 0) r

unfoldable pub marks_with : Tables → Run → Float → Float → Next
marks_with t r raise clear =
    need r.lent (next (Err (No Fault.Range NONE)) t r) (
    need (marks_ok raise clear (length t.frames)) (next (Err (No Fault.Operand NONE)) t r) (
    given (with_marks raise clear r.used (length t.frames)) λ g.
    next (Ok Done) t (knows g r.used)))

-- "Order: 13, ..": the tables, the marks, then the call's own rule
unfoldable pub host_with : Hpa → Tables → Run → Call → Next
host_with base t r c =
    need r.lent (next (Err (No Fault.Range NONE)) t r) (
    need r.marked (next (Err (No Fault.Range NONE)) t r)
    (rule_with base t r c))

unfoldable pub next_of : Hpa → Tables → Run → Ask → Next
next_of base t r (Ask.Host c) = host_with base t r c
next_of base t r (Ask.Marks raise clear) = marks_with t r raise clear
next_of base t r (Ask.Reset) = given (reset_of base t r.gauge) λ o. next o.answer o.tables (known_reset r o.answer o.gauge)
next_of base t r (Ask.Unreadable) = next (Err (No Fault.Unreadable NONE)) t r
