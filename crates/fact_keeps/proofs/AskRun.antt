-- A run with one check at its start is the asks one after the other: every answer with what is read out, the tables and the gauge.
use Rattle.std.specs.Prelude.{Float, Err}
use Rattle.base_rules.specs.Basics.{◌≡◌, Bool, true, false, List, [], ◌∷◌, ℕ, zero, suc, ◌+◌, length, choose, given, sum_from}
use Rattle.base_rules.proofs.Facts.{refl, ap, ◌∙◌, inl, inr, choose_both, length-replicate, both_left, both_right}
use Rattle.base_units.specs.{Limits.frames_ok, declared.address.Hpa.Hpa}
use Rattle.book_gauge.specs.{Marks.marks_ok, Update.fresh_gauge, Update.with_marks, declared.Gauge.Gauge}
use Rattle.book_gauge.proofs.Laws.{fresh_ok}
use Rattle.book_ledger.specs.{Count.one_used, Count.used_frames, Sizes.sizes_of, Sizes.sizes_ok, Tables.Tables}
use Rattle.book_range.specs.Range.{lent_ok}
use Rattle.base_calls.specs.{Answers.values_of, declared.Ask.Ask, declared.Call.Call, declared.Refusal.TheVariants.No, declared.Fault.Fault}
use Rattle.call_host.specs.Calls.{Outcome, outcome, rule_of, call_of, reset_of, marks_of}
use Rattle.call_run.specs.{declared.Run.Run, Runs.knows, Runs.begun_of, Runs.next, Runs.known_reset, Runs.marks_with, Runs.host_with, Runs.next_of}
use Rattle.door_asks.specs.Asks.{ask_of}
use Rattle.fact_keeps.specs.Runs.{ran, and_then, all_refused}
use Rattle.fact_keeps.specs.AskRuns.{ask_fold, asks_from, once_of, Fails, hosts}
use Rattle.fact_keeps.proofs.{Ranged.SizesOk, Ranged.of_lent, Fresh.zeroes, Fresh.zeros, Fresh.zero_frame, Fresh.zeros_lent}
use Rattle.fact_keeps.proofs.{Keeps.rule_keeps, AskKeeps.rule_known, Run.marks_stay}

abbrev marks_in : Tables → Gauge → Bool
marks_in t g = marks_ok g.raise g.clear (length t.frames)

-- ---- what a run knows at its start

module _ (base : Hpa) (t : Tables) (g : Gauge) where
  begun_in : lent_ok base t ≡ true → begun_of base t g ≡ record { gauge = g; used = used_frames t.frames; lent = true; marked = marks_in t g }
  unfolding begun_of given choose
  begun_in ok = rw ok refl

  begun_out : lent_ok base t ≡ false → begun_of base t g ≡ record { gauge = g; used = 0; lent = false; marked = false }
  unfolding begun_of choose
  begun_out e = rw e refl

-- ---- an ask of a run that knows its tables and gauge is a single ask, and the run knows those that it leaves

abbrev Single : Hpa → Tables → Gauge → Ask → Type 0
Single base t g a =
    next_of base t (begun_of base t g) a
    ≡ next (ask_of base t g a).answer (ask_of base t g a).tables (begun_of base (ask_of base t g a).tables (ask_of base t g a).gauge)

module _ (base : Hpa) (t : Tables) (g : Gauge) where
  a_call : (c : Call) → Single base t g (Ask.Host c)
  unfolding next_of ask_of host_with call_of choose
  a_call c =
      elim (lent_ok base t) as (λ b. lent_ok base t ≡ b → Single base t g (Ask.Host c)) [
        | true ↦ λ ok. elim (marks_in t g) as (λ b. marks_in t g ≡ b → Single base t g (Ask.Host c)) [
          | true ↦ λ m. rw (
            begun_in base t g ok,
            ok,
            m,
            rule_known base t g c ok,
            begun_in base (rule_of base t g c).tables (rule_of base t g c).gauge (rule_keeps base t ok g c),
            marks_stay base t g c ok,
            m,
          ) refl
          | false ↦ λ m. rw (ok, m, begun_in base t g ok, m) refl
        ] refl
        | false ↦ λ e. rw (e, begun_out base t g e) refl
      ] refl

  marks_set : (raise clear : Float) → Single base t g (Ask.Marks raise clear)
  unfolding next_of ask_of marks_with marks_of choose given
  marks_set raise clear =
      elim (lent_ok base t) as (λ b. lent_ok base t ≡ b → Single base t g (Ask.Marks raise clear)) [
        | true ↦ λ ok. elim (marks_ok raise clear (length t.frames)) as (λ b. marks_ok raise clear (length t.frames) ≡ b → Single base t g (Ask.Marks raise clear)) [
          | true ↦ λ m. rw (begun_in base t g ok, ok, m, begun_in base t (with_marks raise clear (used_frames t.frames) (length t.frames)) ok, m) refl
          | false ↦ λ m. rw (ok, m, begun_in base t g ok) refl
        ] refl
        | false ↦ λ e. rw (e, begun_out base t g e) refl
      ] refl

  -- a reset knows what it leaves: nothing is used, and all of it is in range
  none_used : (n i k : ℕ) → sum_from (one_used (zeroes n)) i k ≡ 0
  unfolding sum_from one_used choose
  none_used n i zero = refl
  none_used n i (suc k) = rw (zero_frame n i, none_used n (i + 1) k) refl

  fresh_known : SizesOk base t → begun_of base (zeros t) fresh_gauge ≡ knows fresh_gauge 0
  unfolding used_frames sizes_ok sizes_of given
  fresh_known e =
      let f : frames_ok (length t.frames) ≡ true = both_left _ _ (both_right _ _ e) in
      rw (
        begun_in base (zeros t) fresh_gauge (of_lent base (zeros t) (zeros_lent base t e)),
        length-replicate {A = ℕ} (length t.frames) 0,
        none_used (length t.frames) 0 (length t.frames),
        fresh_ok (length t.frames) f,
      ) refl

  was_reset : Single base t g Ask.Reset
  unfolding next_of ask_of reset_of known_reset values_of choose given
  was_reset =
      let ok = sizes_ok base (length t.frames) (length t.domains) (length t.stock) (length t.entries) in
      elim ok as (λ b. ok ≡ b → Single base t g Ask.Reset) [
        | true ↦ λ e. rw (e, fresh_known e) refl
        | false ↦ λ e. rw e refl
      ] refl

pub next_is : (base : Hpa) (t : Tables) (g : Gauge) (a : Ask) → Single base t g a
unfolding next_of ask_of
next_is base t g (Ask.Host c) = a_call base t g c
next_is base t g (Ask.Marks raise clear) = marks_set base t g raise clear
next_is base t g Ask.Reset = was_reset base t g
next_is base t g Ask.Unreadable = refl

-- ---- the run

pub begun_gauge : (base : Hpa) (t : Tables) (g : Gauge) → (begun_of base t g).gauge ≡ g
unfolding begun_of given
begun_gauge base t g = choose_both (λ (r : Run). r.gauge ≡ g) (lent_ok base t) _ _ (λ _. refl) (λ _. refl)

asks_from_fact : (base : Hpa) (t : Tables) (g : Gauge) (l : List Ask) → asks_from base t (begun_of base t g) l ≡ ask_fold base t g l
unfolding asks_from ask_fold given
asks_from_fact base t g [] = rw (begun_gauge base t g) refl
asks_from_fact base t g (a ∷ l) =
    let o = ask_of base t g a in
    rw (next_is base t g a) (ap (and_then o.answer) (asks_from_fact base o.tables o.gauge l))

-- the run with one check is the fold of `ask_of`, refused asks, marks and resets included, on any lent tables
pub ask_run : (base : Hpa) (t : Tables) (g : Gauge) (l : List Ask) → once_of base t g l ≡ ask_fold base t g l
unfolding once_of given
ask_run base t g l = asks_from_fact base t g l

-- ---- where the check fails

module _ (base : Hpa) (t : Tables) (g : Gauge) where
  call_refused : (c : Call) → Fails base t g → call_of base t g c ≡ outcome (Err (No Fault.Range 0)) t g
  unfolding call_of choose
  call_refused c (inl e) = rw e refl
  call_refused c (inr e) = choose_both (λ (o : Outcome). o ≡ outcome (Err (No Fault.Range 0)) t g) (lent_ok base t) _ _ (λ _. rw e refl) (λ _. refl)

  all_refused_fact : (cs : List Call) → Fails base t g → ask_fold base t g (hosts cs) ≡ ran (all_refused cs) t g
  unfolding ask_fold hosts all_refused given ask_of
  all_refused_fact [] e = refl
  all_refused_fact (c ∷ cs) e = rw (call_refused c e) (ap (and_then (Err (No Fault.Range 0))) (all_refused_fact cs e))

  -- each answer is 13 and nothing changes
  pub asks_refused : (cs : List Call) → Fails base t g → once_of base t g (hosts cs) ≡ ran (all_refused cs) t g
  asks_refused cs e = ask_run base t g (hosts cs) ∙ all_refused_fact cs e
