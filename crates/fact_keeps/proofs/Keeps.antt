-- On any lent tables that pass the range check, every call leaves tables that pass it, accepted or refused; and the used frames after it are the
-- count carried along.
use Rattle.std.specs.Prelude.{Err}
use Rattle.base_rules.specs.Basics.{◌≡◌, true, false, length, choose, given}
use Rattle.base_rules.proofs.Facts.{refl, choose_both}
use Rattle.base_units.specs.declared.address.Hpa.{Hpa}
use Rattle.book_gauge.specs.{Marks.marks_ok, declared.Gauge.Gauge}
use Rattle.book_ledger.specs.{Count.used_frames, Tables.Tables}
use Rattle.book_range.specs.Range.{lent_ok}
use Rattle.base_calls.specs.declared.{Call.Call, Refusal.TheVariants.No, Fault.Fault}
use Rattle.call_carry.specs.Carry.{applied, swept_tables, carried}
use Rattle.call_host.specs.Calls.{Outcome, outcome, plan_of, gauge_after, settled, rule_of, call_of}
use Rattle.fact_keeps.proofs.{Stores.same_lengths, Ranged.of_lent, Ranges.lent_of, Plans.Keep, Plans.says, Plans.reads, Plans.does, Plans.sweeps}
use Rattle.fact_keeps.specs.Runs.{used_by, gauge_with, rule_with}
use Rattle.fact_keeps.proofs.{Plans.plan_keeps, Used.used_after_fact}
use Rattle.call_plan.specs.Edits.{Plan}

module _ (base : Hpa) (t : Tables) (ok : lent_ok base t ≡ true) where
  plan_kept : {p : Plan} → Keep base t p → lent_ok base (carried t p).tables ≡ true
  unfolding carried
  plan_kept k = elim k as (λ p _. lent_ok base (carried t p).tables ≡ true)
      [ says ↦ ok | reads ↦ ok | does {e} k ↦ of_lent base (applied e t) k.lent | sweeps {w} k ↦ of_lent base (swept_tables w t) k.lent ]

  plan_used : {p : Plan} → Keep base t p → used_frames (carried t p).tables.frames ≡ used_by p t (used_frames t.frames)
  unfolding carried used_by applied swept_tables
  plan_used k = elim k as (λ p _. used_frames (carried t p).tables.frames ≡ used_by p t (used_frames t.frames))
      [ says ↦ refl | reads ↦ refl | does k ↦ used_after_fact k.within.sized k.within.frames | sweeps _ ↦ refl ]

  plan_length : {p : Plan} → Keep base t p → length (carried t p).tables.frames ≡ length t.frames
  unfolding carried swept_tables
  plan_length k = elim k as (λ p _. length (carried t p).tables.frames ≡ length t.frames)
      [ says ↦ refl | reads ↦ refl | does {e} k ↦ (same_lengths e t).frames | sweeps _ ↦ refl ]

  kept : (c : Call) → Keep base t (plan_of base t c)
  kept c = plan_keeps base t (lent_of base t ok) c

  module _ (g : Gauge) (c : Call) where
    pub rule_keeps : lent_ok base (rule_of base t g c).tables ≡ true
    unfolding rule_of settled
    rule_keeps = plan_kept (kept c)

    pub rule_length : length (rule_of base t g c).tables.frames ≡ length t.frames
    unfolding rule_of settled
    rule_length = plan_length (kept c)

    -- (1)
    pub keeps : lent_ok base (call_of base t g c).tables ≡ true
    unfolding call_of
    keeps =
        let P : Outcome → Type 0 = λ o. lent_ok base o.tables ≡ true in
        choose_both P _ _ _ (λ _. choose_both P _ _ _ (λ _. rule_keeps) (λ _. ok)) (λ _. ok)

    -- (2)
    pub rule_used : used_frames (rule_of base t g c).tables.frames ≡ used_by (plan_of base t c) t (used_frames t.frames)
    unfolding rule_of settled
    rule_used = plan_used (kept c)

    pub call_used : used_frames (call_of base t g c).tables.frames
        ≡ choose (marks_ok g.raise g.clear (length t.frames)) (used_by (plan_of base t c) t (used_frames t.frames)) (used_frames t.frames)
    unfolding call_of choose
    call_used = rw ok (elim (marks_ok g.raise g.clear (length t.frames))
        as (λ b. used_frames (choose b (rule_of base t g c) (outcome (Err (No Fault.Range 0)) t g)).tables.frames
        ≡ choose b (used_by (plan_of base t c) t (used_frames t.frames)) (used_frames t.frames)) [ true ↦ rule_used | false ↦ refl ])

-- ---- a rule with the count by value is the rule

pub rule_with_fact : (base : Hpa) (t : Tables) (g : Gauge) (c : Call) → lent_ok base t ≡ true
    → rule_with base t g (used_frames t.frames) c ≡ record { outcome = rule_of base t g c; used = used_frames (rule_of base t g c).tables.frames }
unfolding rule_with rule_of settled given gauge_with gauge_after
rule_with_fact base t g c ok = let k = kept base t ok c in rw (plan_used base t ok k, plan_length base t ok k) refl
