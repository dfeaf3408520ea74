-- Document 01's third demand: what every reached state has, and the demand from it.
use Rattle.std.specs.Prelude.{Some, Ok, Err}
use Rattle.base_rules.specs.Basics.{◌≡◌, true, false, List, [], ℕ, ◌<◌, eqb, length, choose, given}
use Rattle.base_rules.proofs.Facts.{refl, sym, ap, ◌∙◌, subst, true≢false, arith, eqb-true, eq-eqb, choose_both}
use lib.Ieee.{Float}
use Rattle.base_units.specs.declared.address.Hpa.{Hpa}
use Rattle.book_gauge.specs.{Marks.marks_ok, declared.Gauge.Gauge}
use Rattle.book_ledger.specs.{Codes.NDA, Codes.TDR, Codes.BLOCKED_LIFE, Codes.WRITTEN_BACK, Tables.Tables, declared.words.Frame.Frame}
use Rattle.book_ledger.specs.declared.words.Domain.{Domain}
use Rattle.base_calls.specs.{Answers.values_of, Answers.number_of, declared.Call.Call, declared.Fault.Fault, declared.Refusal.TheVariants.No}
use Rattle.call_plan.specs.Edits.{with_life, Plan}
use Rattle.call_domains.specs.Domains.{write_back}
use Rattle.call_carry.specs.Carry.{carried, applied}
use Rattle.call_host.specs.Calls.{Outcome, outcome, plan_of, call_of, reset_of, marks_of, rule_of, settled}
use Rattle.fact_keeps.specs.Views.{View, kind, number, frame, view}
use Rattle.fact_ownership.specs.{Owned.found, Owned.Found, Owned.Owns, Owned.Untouched, Owned.written_back, Owned.WrittenBack, Always.Always, Always.a_record}
use Rattle.fact_ownership.specs.Reached.{extent, Lists, role_of, subject, left, left_by, Accepted, Reached, Demand3, fresh, called, marked}
use Rattle.fact_ownership.proofs.{Domain.mine_not, Sound.held_freed, Sound.Sound, Sound.owns_walk, Sound.not_bare, State.State, Turns.Does}
use Rattle.fact_ownership.proofs.{Shift.untouched, Shift.shifted, Plans.Good, Plans.answers, Plans.reading, Plans.steps, Plans.writes, Plans.plan_good}
use Rattle.fact_ownership.proofs.Written.{Swept, written_back_fact, swept_sound, swept_tidy}
use Rattle.fact_keeps.proofs.{Stores.SameLengths, Stores.same_lengths, Stores.after, Plans.Keep, Plans.does, Plans.sweeps, Plans.plan_keeps}
use Rattle.fact_keeps.proofs.{Sweeps.swept_domain, Sweeps.AfterSweep, Sweeps.sweep_lengths, Sweeps.keep_sweep, Ranged.bit_is, Lookups.record_low}
use Rattle.fact_keeps.proofs.{Ranged.SizesOk, Ranged.of_lent, Fresh.zeros, Fresh.zero_frame, Fresh.zero_unused, Fresh.zeros_lent}
use Rattle.fact_ownership.proofs.Facts.{refused_some, reads_none}

-- ---- a fresh start

zeros_state : (base : Hpa) (t : Tables) → SizesOk base t → State base (zeros t) (λ x. [])
zeros_state base t e = record {
  lent = zeros_lent base t e;
  ok = record {
    owns = λ d k. absurd (omega (arith, k, no_kind d));
    unique = λ k f g m kf. absurd (not_bare m kf (omega (arith, no_kind f)));
    used = λ k f m kf. absurd (not_bare m kf (omega (arith, no_kind f)));
    tables = λ g k. absurd (omega (arith, k, no_kind g));
    owners = λ f k. absurd (omega (arith, k, no_kind f));
  };
  tidy = record {
    keys = λ d e k. absurd (omega (arith, k.tdr, no_kind d));
    taken = λ b u. absurd (true≢false (sym u ∙ zero_unused (length t.stock) b));
    idle = λ d k. absurd (omega (arith, k, no_kind d));
  };
}
  where
    no_kind : (f : ℕ) → kind (view (zeros t)) f ≡ NDA
    no_kind f = ap (λ (x : Frame). x.kind) (zero_frame (length t.frames) f)

fresh_state : (base : Hpa) (t : Tables) (g : Gauge) → Accepted (reset_of base t g) → State base (reset_of base t g).tables (λ x. [])
unfolding reset_of values_of
fresh_state base t g =
    choose_both (λ (o : Outcome). Accepted o → State base o.tables (λ x. [])) _ _ _ (λ e _. zeros_state base t e) (λ _ a. absurd (omega arith))

-- ---- a call, whatever its plan does

pub record Answered (base : Hpa) (t : Tables) (g : Gauge) (l : Lists) (c : Call) (o : Outcome) : Type 0 where
  pub state : State base o.tables (left_by base t c o l)
  pub mild : number_of o.answer < 14
  pub few : marks_ok g.raise g.clear (length t.frames) ≡ true → number_of o.answer < 13
  pub alone : (c ≡ Call.CacheWb → ⊥) → Accepted o → (e : ℕ) → kind (view t) e ≡ TDR → (subject base t (role_of c) ≡ Some (frame e) → ⊥)
      → Untouched (extent t) (view t) (view o.tables) e

same_extent : {t t' : Tables} → SameLengths t t' → extent t' ≡ extent t
same_extent q = rw (q.domains, q.entries) refl

-- what cachewb's plan does, in a state whose TDRs have their records in use
written : (d : Domain) → swept_domain write_back true d ≡ written_back d
unfolding choose
written d = elim (eqb d.life BLOCKED_LIFE)
    as (λ b. choose b (with_life d WRITTEN_BACK) d ≡ with_life d (choose b WRITTEN_BACK d.life)) [ true ↦ refl | false ↦ refl ]

sweeping : {base : Hpa} {t : Tables} {l : Lists} → State base t l → {s' : View} → AfterSweep t s' write_back → Swept (view t) s'
sweeping {base} {t} st a = record {
  frames = a.frames;
  domains = λ e k.
      a.domains _
      ∙ rw (bit_is t _ (record_low base t st.lent e k), st.ok.used TDR e a_record k) (written ((view t).domain (number (view t) e)));
  controls = a.controls;
  entries = a.entries;
  uses = a.uses;
}

module _ {base : Hpa} {t : Tables} (g : Gauge) {l : Lists} (st : State base t l) (c : Call) where
  by_plan : {p : Plan} → Good base t l c p → Keep base t p → Answered base t g l c (settled g (carried t p))
  unfolding settled carried choose values_of
  by_plan (answers {r} m) _ = record {
    state = choose_both (State base t) (eqb (number_of (Err r)) _) _ l
        (λ q. absurd (omega (arith, refused_some r, eqb-true (number_of (Err r)) _ q))) (λ _. st);
    mild = omega (arith, m.few);
    few = λ _. m.few;
    alone = λ _ q. absurd (omega (arith, refused_some r));
  }
  by_plan (reading {r} f) _ = record {
    state = rw (eq-eqb (number_of (Ok r)) 0 (reads_none r), f) st;
    mild = omega (arith, reads_none r);
    few = λ _. omega (arith, reads_none r);
    alone = λ _ _ e k ne. search;
  }
  by_plan (steps {e} {gone} {come} n su d) (does k) = record {
    state = record { lent = k.lent; ok = now; tidy = rw (same_extent (same_lengths e t)) now_does.tidy };
    mild = omega arith;
    few = λ _. omega arith;
    alone = λ _ _ x h ne. untouched st.ok now_does.shift x h (λ z. ne (su ∙ ap (λ (y : ℕ). Some (frame y)) (sym z)));
  }
    where
      now_does : Does t (view (applied e t)) l (left base t (role_of c) l) n.0 gone come
      now_does = d (after t e k.within)

      now : Sound (extent (applied e t)) (view (applied e t)) (left base t (role_of c) l)
      now = rw (same_extent (same_lengths e t)) (shifted st.ok now_does.shift)
  by_plan (writes is none) (sweeps k) =
      let p = sweeping st k.after in
      let e = same_extent (sweep_lengths write_back t) in
      record {
        state = record { lent = k.lent; ok = rw (e, none) (swept_sound (extent t) p st.ok); tidy = rw e (swept_tidy (extent t) p st.ok st.tidy) };
        mild = omega arith;
        few = λ _. omega arith;
        alone = λ ne. absurd (ne is);
      }

  thirteen : marks_ok g.raise g.clear (length t.frames) ≡ false → Answered base t g l c (outcome (Err (No Fault.Range 0)) t g)
  unfolding values_of choose
  thirteen u = record { state = st; mild = omega arith; few = λ v. absurd (true≢false (sym v ∙ u)); alone = λ _ a. absurd (omega arith) }

  pub called_well : Answered base t g l c (call_of base t g c)
  unfolding call_of rule_of
  called_well = choose_both (Answered base t g l c) _ _ _
      (λ _. choose_both (Answered base t g l c) _ _ _ (λ _. by_plan (plan_good st c) (plan_keeps base t st.lent c)) thirteen)
      (λ u. absurd (true≢false (sym (of_lent base t st.lent) ∙ u)))

-- cachewb, where it is accepted
called_together : {base : Hpa} {t : Tables} (g : Gauge) {l : Lists} → State base t l → Accepted (call_of base t g Call.CacheWb)
    → (e : ℕ) → kind (view t) e ≡ TDR → WrittenBack (extent t) (view t) (view (call_of base t g Call.CacheWb).tables) e
unfolding call_of rule_of settled carried plan_of values_of
called_together {base} {t} g st =
    let P : Outcome → Type 0 = λ o. Accepted o → (e : ℕ) → kind (view t) e ≡ TDR → WrittenBack (extent t) (view t) (view o.tables) e in
    let k = keep_sweep base t st.lent write_back (omega arith) in
    choose_both P _ _ _
    (λ _. choose_both P _ _ _ (λ _ _. written_back_fact (extent t) (sweeping st k.after)) (λ _ a. absurd (omega arith))) (λ _ a. absurd (omega arith))

-- setting the marks leaves the tables
marked_well : {base : Hpa} {t : Tables} (g : Gauge) {l : Lists} → State base t l → (raise clear : Float)
    → State base (marks_of base t g raise clear).tables l × (number_of (marks_of base t g raise clear).answer < 13)
unfolding marks_of given values_of
marked_well {base} {t} g {l} st raise clear =
    let P : Outcome → Type 0 = λ o. State base o.tables l × (number_of o.answer < 13) in
    choose_both P _ _ _ (λ _. choose_both P _ _ _ (λ _. (st, omega arith)) (λ _. (st, omega arith)))
    (λ u. absurd (true≢false (sym (of_lent base t st.lent) ∙ u)))

pub state : {base : Hpa} {t : Tables} {l : Lists} → Reached base t l → State base t l
state {base} (fresh t g a) = fresh_state base t g a
state (called r g c) = (called_well g (state r) c).state
state (marked r g raise clear) = (marked_well g (state r) raise clear).0

-- ---- the demand

pub demand3 : (base : Hpa) (t : Tables) (l : Lists) → Reached base t l → Demand3 base t l
demand3 base t l r =
    let st = state r in
    record {
      keyed = λ d k. owns_walk st.ok k;
      freed = λ d k f. subst (λ (x : List Found). Owns (view t) d x) (held_freed (extent t) (view t) l d k f) (st.ok.owns d k);
      alone = λ g c o a e k ne. (called_well g st c).alone o a e k ne;
      together = λ g. called_together g st;
      never14 = λ g c q. omega (arith, (called_well g st c).mild);
      never13 = λ g c m q. omega (arith, (called_well g st c).few m);
      never_marks = λ g raise clear q. omega (arith, (marked_well g st raise clear).1);
      free = λ f d z. (
        (λ b. omega (arith, b.type)),
        λ k ty.
            (owns_walk st.ok k).once (found f ty) ∙ mine_not (view t) d (found f ty) (λ m. omega (arith, m.typed, m.kind)),
      );
    }

-- what every reached state has besides
pub always : (base : Hpa) (t : Tables) (l : Lists) → Reached base t l → Always (extent t) (view t)
always base t l r = let ok = (state r).ok in let tidy = (state r).tidy in search
