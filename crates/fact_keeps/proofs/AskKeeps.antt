-- A rule of a run that knows its tables, with the count by value, is the rule; and the used frames after it are the count that the run knows then.
use Rattle.base_rules.specs.Basics.{◌≡◌, true, given}
use Rattle.base_rules.proofs.Facts.{refl}
use Rattle.base_units.specs.declared.address.Hpa.{Hpa}
use Rattle.book_gauge.specs.declared.Gauge.{Gauge}
use Rattle.book_ledger.specs.{Count.used_frames, Tables.Tables}
use Rattle.book_range.specs.Range.{lent_ok}
use Rattle.base_calls.specs.declared.Call.{Call}
use Rattle.call_carry.specs.Carry.{applied, swept_tables, carried}
use Rattle.call_host.specs.Calls.{plan_of, gauge_after, settled, rule_of}
use Rattle.call_run.specs.Runs.{used_by, knows, next, gauge_with, rule_with}
use Rattle.fact_keeps.proofs.{Ranges.lent_of, Plans.Keep, Plans.says, Plans.reads, Plans.does, Plans.sweeps, Plans.plan_keeps, AskUsed.counted_fact}
use Rattle.call_plan.specs.Edits.{Plan}

module _ (base : Hpa) (t : Tables) where
  plan_used : {p : Plan} → Keep base t p → used_frames (carried t p).tables.frames ≡ used_by p t.frames (used_frames t.frames)
  unfolding carried used_by applied swept_tables
  plan_used k = elim k as (λ p _. used_frames (carried t p).tables.frames ≡ used_by p t.frames (used_frames t.frames))
      [ says ↦ refl | reads ↦ refl | does k ↦ counted_fact k.within.sized k.within.frames | sweeps _ ↦ refl ]

  kept : lent_ok base t ≡ true → (c : Call) → Keep base t (plan_of base t c)
  kept ok c = plan_keeps base t (lent_of base t ok) c

  pub rule_counted : (g : Gauge) (c : Call) → lent_ok base t ≡ true
      → used_frames (rule_of base t g c).tables.frames ≡ used_by (plan_of base t c) t.frames (used_frames t.frames)
  unfolding rule_of settled
  rule_counted g c ok = plan_used (kept ok c)

  pub rule_known : (g : Gauge) (c : Call) → lent_ok base t ≡ true
      → rule_with base t (knows g (used_frames t.frames)) c
      ≡ next (rule_of base t g c).answer (rule_of base t g c).tables (knows (rule_of base t g c).gauge (used_frames (rule_of base t g c).tables.frames))
  unfolding rule_with rule_of settled given gauge_with gauge_after
  rule_known g c ok = rw (plan_used (kept ok c)) refl
