-- Every host call on any lent tables and gauge: answer 13, then the call's own rule, and the gauge after an accepted call.
use Rattle.base_rules.specs.Basics.{ℕ, List, length, eqb, choose, need, given}
use Rattle.std.specs.Prelude.{Float, Ok, Err}
use Rattle.base_units.specs.declared.address.Hpa.{Hpa}
use Rattle.book_gauge.specs.{Marks.marks_ok, Update.after, Update.with_marks, Update.fresh_gauge, declared.Gauge.Gauge}
use Rattle.book_ledger.specs.{Count.used_frames, Sizes.sizes_ok, Tables.Tables, Lent.zeroed}
use Rattle.book_range.specs.Range.{lent_ok}
use Rattle.base_calls.specs.{Answers.Answer, Answers.values_of, Operands.NONE}
use Rattle.base_calls.specs.declared.{Reading.TheVariants.Done, Refusal.TheVariants.No, Fault.Fault, Call.Call}
use Rattle.call_plan.specs.Edits.{Plan}
use Rattle.call_carry.specs.Carry.{Carried, carried}
use Rattle.call_domains.specs.Domains as domains
use Rattle.call_adds.specs.Adds as adds
use Rattle.call_trees.specs.Trees as trees
use Rattle.call_pages.specs.Pages as pages

-- a row of "The calls" each
unfoldable pub plan_of : Hpa → Tables → Call → Plan
plan_of base t (Call.Create f key) = domains.create_plan base t f key
plan_of base t (Call.KeyConfig d) = domains.keyconfig_plan base t d
plan_of base t (Call.AddCx d f) = domains.addcx_plan base t d f
plan_of base t (Call.Init d) = domains.init_plan base t d
plan_of base t (Call.SeptAdd d gpa level f) = adds.septadd_plan base t d gpa level f
plan_of base t (Call.PageAdd d gpa f) = adds.pageadd_plan base t d gpa f
plan_of base t (Call.Finalize d) = domains.finalize_plan base t d
plan_of base t (Call.PageAug d gpa f) = adds.pageaug_plan base t d gpa f
plan_of base t (Call.Block d gpa level) = trees.block_plan base t d gpa level
plan_of base t (Call.Track d) = domains.track_plan base t d
plan_of base t (Call.Unblock d gpa level) = trees.unblock_plan base t d gpa level
plan_of base t (Call.PageRemove d gpa) = trees.pageremove_plan base t d gpa
plan_of base t (Call.SeptRemove d gpa level) = trees.septremove_plan base t d gpa level
plan_of base t (Call.FlushDone d) = domains.flushdone_plan base t d
plan_of base t (Call.KeyFree d) = domains.keyfree_plan base t d
plan_of base t (Call.Reclaim f) = pages.reclaim_plan base t f
plan_of base t (Call.ReadPage f) = pages.readpage_plan base t f
plan_of base t (Call.ReadEntry d gpa level) = trees.readentry_plan base t d gpa level
plan_of base t (Call.CacheWb) = domains.cachewb_plan

-- all that a call settles: its answer with what is read out, the lent tables and the gauge
pub record Outcome : Type 0 where
  pub answer : Answer
  pub tables : Tables
  pub gauge : Gauge

abbrev pub outcome : Answer → Tables → Gauge → Outcome
outcome a t g = record { answer = a; tables = t; gauge = g }

-- "An accepted call stores the new fill [..] a refusal leaves tables and gauge untouched."
unfoldable pub gauge_after : Gauge → Answer → List ℕ → Gauge
gauge_after g a fs =
    given (values_of a) λ v.
    choose (eqb v.number 0)
    (given (used_frames fs) λ used. after g used (length fs))
    g

unfoldable pub settled : Gauge → Carried → Outcome
settled g c = outcome c.answer c.tables (gauge_after g c.answer c.tables.frames)

-- the call's own rule, on tables and marks that answer 13 has nothing to say of
unfoldable pub rule_of : Hpa → Tables → Gauge → Call → Outcome
rule_of base t g c = settled g (carried t (plan_of base t c))

-- "Order: 13, ..": the lent tables, the lent gauge's marks, then the call's own rule
unfoldable pub call_of : Hpa → Tables → Gauge → Call → Outcome
call_of base t g c =
    need (lent_ok base t) (outcome (Err (No Fault.Range NONE)) t g) (
    need (marks_ok g.raise g.clear (length t.frames)) (outcome (Err (No Fault.Range NONE)) t g)
    (rule_of base t g c))

-- "Reset makes all frames NDA, all stock unused and every stored number zero; it reads no lent word, and answers 13 for sizes or base,
-- else 0." "Reset: fill +0, lamp out, raise mark 1, clear mark 0."
unfoldable pub reset_of : Hpa → Tables → Gauge → Outcome
reset_of base t g =
    need (sizes_ok base (length t.frames) (length t.domains) (length t.stock) (length t.entries)) (outcome (Err (No Fault.Range NONE)) t g)
    (outcome (Ok Done) (zeroed t) fresh_gauge)

-- "Setting the marks stores them and the fill, and lights it exactly if fill is at or above raise; it reads nothing of the old gauge, which
-- can't give 13 there."
unfoldable pub marks_of : Hpa → Tables → Gauge → Float → Float → Outcome
marks_of base t g raise clear =
    need (lent_ok base t) (outcome (Err (No Fault.Range NONE)) t g) (
    need (marks_ok raise clear (length t.frames)) (outcome (Err (No Fault.Operand NONE)) t g) (
    given (used_frames t.frames) λ used.
    given (with_marks raise clear used (length t.frames)) λ now.
    outcome (Ok Done) t now))
