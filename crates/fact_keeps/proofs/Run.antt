-- A run with one check at its start is the calls one after the other: every answer with what is read out, the tables and the gauge.
use Rattle.std.specs.Prelude.{Err}
use Rattle.base_rules.specs.Basics.{◌≡◌, Bool, true, false, List, [], ◌∷◌, ◌⊎◌, length, choose, given}
use Rattle.base_rules.proofs.Facts.{refl, sym, ap, ◌∙◌, inl, inr, choose_both}
use Rattle.base_units.specs.declared.address.Hpa.{Hpa}
use Rattle.book_gauge.specs.{Marks.marks_ok, declared.Gauge.Gauge}
use Rattle.book_ledger.specs.{Count.used_frames, Tables.Tables}
use Rattle.book_range.specs.Range.{lent_ok}
use Rattle.base_calls.specs.declared.{Call.Call, Refusal.TheVariants.No, Fault.Fault}
use Rattle.call_host.specs.Calls.{Outcome, outcome, gauge_after, settled, rule_of, call_of}
use Rattle.fact_keeps.specs.Runs.{Ran, ran, and_then, fold_of, run_from, all_refused, run_of}
use Rattle.fact_keeps.proofs.Keeps.{rule_keeps, rule_length, rule_with_fact}

abbrev marks_in : Tables → Gauge → Bool
marks_in t g = marks_ok g.raise g.clear (length t.frames)

-- ---- no call changes a mark

module _ (base : Hpa) (t : Tables) (g : Gauge) where
  pub marks_stay : (c : Call) → lent_ok base t ≡ true → marks_in (rule_of base t g c).tables (rule_of base t g c).gauge ≡ marks_in t g
  unfolding rule_of settled gauge_after given
  marks_stay c ok =
      let l = rule_length base t ok g c in
      choose_both (λ (h : Gauge). marks_in (rule_of base t g c).tables h ≡ marks_in t g) _ _ _ (λ _. rw l refl) (λ _. rw l refl)

  -- ---- what a call is where the check doesn't pass

  call_refused : (c : Call) → (lent_ok base t ≡ false) ⊎ (marks_in t g ≡ false) → call_of base t g c ≡ outcome (Err (No Fault.Range 0)) t g
  unfolding call_of choose
  call_refused c (inl e) = rw e refl
  call_refused c (inr e) = choose_both (λ (o : Outcome). o ≡ outcome (Err (No Fault.Range 0)) t g) (lent_ok base t) _ _ (λ _. rw e refl) (λ _. refl)

  pub all_refused_fact : (cs : List Call) → (lent_ok base t ≡ false) ⊎ (marks_in t g ≡ false) → fold_of base t g cs ≡ ran (all_refused cs) t g
  unfolding fold_of all_refused given
  all_refused_fact [] e = refl
  all_refused_fact (c ∷ cs) e = rw (call_refused c e) (ap (and_then (Err (No Fault.Range 0))) (all_refused_fact cs e))

-- ---- the run

run_from_fact : (base : Hpa) (t : Tables) (g : Gauge) (cs : List Call) → lent_ok base t ≡ true → marks_in t g ≡ true
    → run_from base t g (used_frames t.frames) cs ≡ fold_of base t g cs
unfolding run_from fold_of given call_of choose
run_from_fact base t g [] ok m = refl
run_from_fact base t g (c ∷ cs) ok m =
    let o = rule_of base t g c in
    rw (rule_with_fact base t g c ok, ok, m)
    (ap (and_then o.answer) (run_from_fact base o.tables o.gauge cs (rule_keeps base t ok g c) (marks_stay base t g c ok ∙ m)))

-- (3) the run with one check is the fold of `call_of`
pub run : (base : Hpa) (t : Tables) (g : Gauge) (cs : List Call) → run_of base t g cs ≡ fold_of base t g cs
unfolding run_of given
run base t g cs =
    let P : Ran → Type 0 = λ r. r ≡ fold_of base t g cs in
    choose_both P _ _ _ (λ ok. choose_both P _ _ _ (run_from_fact base t g cs ok) (λ e. sym (all_refused_fact base t g cs (inr e))))
    (λ e. sym (all_refused_fact base t g cs (inl e)))

-- where the first check fails, each answer is 13 and nothing changes
pub run_refused : (base : Hpa) (t : Tables) (g : Gauge) (cs : List Call) → (lent_ok base t ≡ false) ⊎ (marks_in t g ≡ false)
    → run_of base t g cs ≡ ran (all_refused cs) t g
run_refused base t g cs e = run base t g cs ∙ all_refused_fact base t g cs e
