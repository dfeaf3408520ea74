-- Each accepted call, on any lent tables, leaves exactly what its row of `effect_of` says, at every place, and answers as `accepted_of` says.
use Rattle.std.specs.Prelude.{Ok}
use Rattle.base_rules.specs.Basics.{◌≡◌, Bool, ℕ}
use Rattle.base_rules.proofs.Facts.{refl, ap, subst, arith}
use Rattle.base_units.specs.declared.address.Hpa.{Hpa}
use Rattle.book_gauge.specs.declared.Gauge.{Gauge}
use Rattle.book_ledger.specs.Tables.{Tables}
use Rattle.base_calls.specs.{Answers.values_of, Answers.number_of, declared.Call.Call, declared.Reading.Reading}
use Rattle.call_carry.specs.Carry.{carried}
use Rattle.call_host.specs.Calls.{Outcome, settled, rule_of, call_of}
use Rattle.fact_keeps.specs.Views.{View, view}
use Rattle.fact_keeps.proofs.{Stores.after, Ranges.lent_of, Plans.Keep, Plans.says, Plans.reads, Plans.does, Plans.sweeps, Plans.plan_keeps}
use Rattle.fact_theorems.specs.Effects.{effect_of, accepted_of}
use Rattle.fact_theorems.proofs.{Firsts.row, Firsts.Does, Answers.plan_first, Answers.by_call}
use Rattle.call_plan.specs.Edits.{Plan}
use Rattle.fact_ownership.proofs.Facts.{refused_some}

-- every frame, record, control page, entry and in-use bit reads alike
pub record Alike (s v : View) : Type 0 where
  pub frames : (f : ℕ) → s.frame f ≡ v.frame f
  pub domains : (r : ℕ) → s.domain r ≡ v.domain r
  pub controls : (r i : ℕ) → s.control r i ≡ v.control r i
  pub entries : (b i : ℕ) → s.entry b i ≡ v.entry b i
  pub uses : (b : ℕ) → s.used b ≡ v.used b

by_plan : (base : Hpa) (t : Tables) (r : Bool) (v : View) (y : Reading) {p : Plan} → Keep base t p → Does (row r t v y) p
    → number_of (carried t p).answer ≡ 0 → Alike (view (carried t p).tables) v × ((carried t p).answer ≡ Ok y)
unfolding carried Does
by_plan base t r v y (says {r = e}) d z = absurd (omega (arith, refused_some e, z))
by_plan base t r v y reads d z =
    (subst (Alike _) d.0 (record { frames = λ _. refl; domains = λ _. refl; controls = λ _ _. refl; entries = λ _ _. refl; uses = λ _. refl }), ap Ok d.1)
by_plan base t r v y (does {e} k) d z =
    let a = after t e k.within in
    (subst (Alike _) d.0 (record { frames = a.frames; domains = a.domains; controls = a.controls; entries = a.entries; uses = a.uses }), ap Ok d.1)
by_plan base t r v y (sweeps k) d z =
    let a = k.after in
    (subst (Alike _) d.0 (record { frames = a.frames; domains = a.domains; controls = a.controls; entries = a.entries; uses = a.uses }), ap Ok d.1)

module _ (base : Hpa) (t : Tables) (g : Gauge) (c : Call) where
  abbrev Accepts : Outcome → Type 0
  Accepts o = number_of o.answer ≡ 0 → Alike (view o.tables) (effect_of base t c) × (o.answer ≡ Ok (accepted_of base t c))

  pub effects : Accepts (call_of base t g c)
  unfolding rule_of settled values_of
  effects =
      by_call Accepts base t g c (λ ok. by_plan base t _ _ _ (plan_keeps base t (lent_of base t ok) c) (plan_first base t c).does) λ z. absurd (omega arith)
