-- Each number is given exactly when its check fails and no check before it does, and the checks stand in the paper's order.
use Rattle.std.specs.Prelude.{Ok, Err}
use Rattle.base_rules.specs.Basics.{◌≡◌, Bool, true, false, List, [], ◌∷◌, ◌⊎◌, ℕ, ◌+◌, ◌-◌, eqb, ltb, choose, given}
use Rattle.base_rules.proofs.Facts.{refl, ◌∙◌, inl, inr, arith, eqb-true, eqb-false, ne_eqb, lt-ltb, le-ltb, choose_both}
use Rattle.base_units.specs.{Limits.between, declared.address.Hpa.Hpa}
use Rattle.book_gauge.specs.declared.Gauge.{Gauge}
use Rattle.book_range.specs.Range.{lent_ok}
use Rattle.base_calls.specs.{Answers.values_of, Answers.number_of, declared.Ask.Ask, declared.Call.Call, declared.Refusal.TheVariants.No}
use Rattle.call_carry.specs.Carry.{carried}
use Rattle.book_ledger.specs.Codes.{NDA, TDR, TDCX, NL_MAPPED, MAPPED, PENDING, NL_BLOCKED, BLOCKED, PENDING_BLOCKED}
use Rattle.book_ledger.specs.Tables.{Tables}
use Rattle.call_plan.specs.{Changes.gain, Changes.lose, Entries.blocked_state, Entries.unblocked_state}
use Rattle.call_domains.specs.Domains.{life_plan, op_plan, track_plan, enlist_at, addcx_plan, new_record, create_at, create_plan}
use Rattle.call_adds.specs.Adds.{free_for, add_table_at, add_page_at, septadd_plan, page_plan}
use Rattle.call_trees.specs.Trees.{block_at, block_plan, unblock_at, unblock_plan, pageremove_at, pageremove_plan, septremove_at, septremove_plan, readentry_at}
use Rattle.call_trees.specs.Trees.{readentry_plan}
use Rattle.call_pages.specs.Pages.{reclaim_tdr, reclaim_child, reclaim_at, reclaim_plan, readpage_plan}
use Rattle.call_host.specs.Calls.{Outcome, outcome, plan_of, gauge_after, settled, rule_of, call_of, reset_of, marks_of}
use Rattle.door_asks.specs.Asks.{ask_of}
use Rattle.fact_theorems.specs.{Checks.kind_is, Checks.window, Checks.reads, Checks.checks_of, Checks.all_checks, Doors.ask_checks, Doors.reads_out}
use Rattle.fact_keeps.specs.Views.{View, view}
use Rattle.fact_keeps.proofs.Stores.{new_frame, new_domain, new_page, new_entry, new_use, wiped_domain, wiped_page, wiped_entry}
use Rattle.fact_keeps.proofs.Ranged.{between_true}
use Rattle.fact_theorems.specs.Effects.{effect_of, owner_of, leads_to, accepted_of}
use Rattle.fact_theorems.specs.Order.{Reason, tables, marks, operand, emptied, frame, unreadable, fault_of, Check, check, first_no, in_order, Fails, here}
use Rattle.fact_theorems.specs.Order.{later, Passes, none, one}
use Rattle.fact_theorems.proofs.Firsts.{number_p, number_is, row, Tells, TellsP, Numbers, no, window_first, none_besides, frame_besides, parties_first, built_first}
use Rattle.fact_theorems.proofs.Firsts.{spot_first, owner_first, offered_first, reach_first, tracked_first, walk_first, stock_first, child_first}
use Rattle.fact_theorems.proofs.Firsts.{needed, unless, either, done, swept, read}
use Rattle.call_plan.specs.{Edits.Plan, declared.edit.Deed.TheVariants.Do, declared.edit.Deed.TheVariants.Each, declared.edit.Deed.TheVariants.Tell}
use Rattle.base_calls.specs.declared.{Fault.Fault, Reading.Reading}
use Rattle.fact_ownership.proofs.Facts.{reads_none}

-- by whether two numbers are equal
pub choose_eq : {A : Type 0} (P : A → Type 0) (a b : ℕ) {x y : A} → (a ≡ b → P x) → ((a ≡ b → ⊥) → P y) → P (choose (eqb a b) x y)
choose_eq P a b f g = choose_both P (eqb a b) _ _ (λ e. f (eqb-true a b e)) (λ e. g (eqb-false a b e))

-- a blocked state's code is three above that of the state before
blocked_code : (s : ℕ) → between NL_MAPPED s PENDING ≡ true → blocked_state s ≡ s + 3
unfolding blocked_state
blocked_code s h =
    let b = between_true NL_MAPPED s PENDING h in let P : ℕ → Type 0 = λ x. x ≡ s + 3 in
    choose_eq P s NL_MAPPED (λ e. omega arith) λ n. choose_eq P s MAPPED (λ e. omega arith) λ m. omega arith

unblocked_code : (s : ℕ) → between NL_BLOCKED s PENDING_BLOCKED ≡ true → unblocked_state s ≡ s - 3
unfolding unblocked_state
unblocked_code s h =
    let b = between_true NL_BLOCKED s PENDING_BLOCKED h in let P : ℕ → Type 0 = λ x. x ≡ s - 3 in
    choose_eq P s NL_BLOCKED (λ e. omega arith) λ n. choose_eq P s BLOCKED (λ e. omega arith) λ m. omega arith

-- types 0 and 1 have no owner, the others do; a FREE entry leads nowhere
page_said : (k : ℕ) (nil o : Hpa) {t : Tables}
    → Numbers (row true t (view t) (Reading.Page k (choose (eqb k NDA) nil (choose (eqb k TDR) nil o))))
    (choose (ltb k TDCX) (Ok (Tell (Reading.Page k nil))) (Ok (Tell (Reading.Page k o)))) []
unfolding choose values_of Tells
page_said k nil o {t} =
    let plan : Plan = choose (ltb k TDCX) (Ok (Tell (Reading.Page k nil))) (Ok (Tell (Reading.Page k o))) in
    let P : Hpa → Type 0 = λ h. Numbers (row true t (view t) (Reading.Page k h)) plan [] in
    choose_eq P k NDA (λ e. rw (lt-ltb k TDCX (omega arith)) (read _ refl)) λ n.
    choose_eq P k TDR (λ e. rw (lt-ltb k TDCX (omega arith)) (read _ refl)) λ m. rw (le-ltb k TDCX (omega arith)) (read _ refl)

entry_said : (level state : ℕ) (b : Bool) (h k : Hpa) {t : Tables}
    → Numbers (row true t (view t) (Reading.Entry level state (choose b h k)))
    (choose b (Ok (Tell (Reading.Entry level state h))) (Ok (Tell (Reading.Entry level state k)))) []
unfolding choose values_of Tells
entry_said level state true h k = read _ refl
entry_said level state false h k = read _ refl

-- a call's plan answers with the number of its first check that fails, and where it accepts it does and answers as its row says
pub plan_first : (base : Hpa) (t : Tables) (c : Call) → Numbers (row (reads c) t (effect_of base t c) (accepted_of base t c)) (plan_of base t c)
    (checks_of base t c)
unfolding given owner_of leads_to plan_of reads checks_of effect_of accepted_of new_frame new_domain new_page new_entry new_use wiped_domain wiped_page wiped_entry
    create_plan create_at new_record life_plan op_plan addcx_plan enlist_at gain septadd_plan free_for add_table_at page_plan add_page_at block_plan block_at
    track_plan unblock_plan unblock_at pageremove_plan pageremove_at lose septremove_plan septremove_at readpage_plan readentry_plan readentry_at reclaim_plan
    reclaim_at reclaim_tdr reclaim_child
plan_first base t (Call.Create f k) = window_first _ _ _ _ _ (needed _ (needed _ (needed _ (stock_first _ _ (done refl refl)))))
plan_first base t (Call.KeyConfig d) = parties_first _ _ _ _ none_besides (needed _ (done refl refl))
plan_first base t (Call.AddCx d f) = parties_first _ _ _ _ (frame_besides _ _ _ _) (needed _ (needed _ (needed _ (needed _ (done refl refl)))))
plan_first base t (Call.Init d) = built_first _ _ _ _ _ _ none_besides (done refl refl)
plan_first base t (Call.SeptAdd d gpa level f) =
    spot_first _ _ _ _ _ _ _ _ _ (frame_besides _ _ _ _) (offered_first _ _ _ (reach_first _ _ _ _ _ _ _ λ _. stock_first _ _ (needed _ (done refl refl))))
plan_first base t (Call.PageAdd d gpa f) =
    spot_first _ _ _ _ _ _ _ _ _ (frame_besides _ _ _ _) (offered_first _ _ _ (reach_first _ _ _ _ _ _ _ λ _. needed _ (done refl refl)))
plan_first base t (Call.Finalize d) = built_first _ _ _ _ _ _ none_besides (done refl refl)
plan_first base t (Call.PageAug d gpa f) =
    spot_first _ _ _ _ _ _ _ _ _ (frame_besides _ _ _ _) (offered_first _ _ _ (reach_first _ _ _ _ _ _ _ λ _. needed _ (done refl refl)))
plan_first base t (Call.Block d gpa level) =
    spot_first _ _ _ _ _ _ _ _ _ none_besides (reach_first _ _ _ _ _ _ _ λ h. needed _ (done (rw (blocked_code _ h)) refl))
plan_first base t (Call.Track d) = built_first _ _ _ _ _ _ none_besides (needed _ (done refl refl))
plan_first base t (Call.Unblock d gpa level) =
    spot_first _ _ _ _ _ _ _ _ _ none_besides (tracked_first _ _ _ _ _ _ _ (no frame 0) λ h. done (rw (unblocked_code _ h)) refl)
plan_first base t (Call.PageRemove d gpa) =
    spot_first _ _ _ _ _ _ _ _ _ none_besides (tracked_first _ _ _ _ _ _ _ (no frame 0) λ _. unless _ _ (done refl refl))
plan_first base t (Call.SeptRemove d gpa level) =
    spot_first _ _ _ _ _ _ _ _ _ none_besides (tracked_first _ _ _ _ _ _ _ (no emptied 0) λ _. needed _ (unless _ _ (done refl refl)))
plan_first base t (Call.FlushDone d) = parties_first _ _ _ _ none_besides (needed _ (done refl refl))
plan_first base t (Call.KeyFree d) = parties_first _ _ _ _ none_besides (needed _ (done refl refl))
plan_first base t (Call.Reclaim f) = window_first _ _ _ _ _ (unless _ _ (either _ (owner_first _ _ _ (needed _ (needed _ (done refl refl))))
    (owner_first _ _ _ (needed _ (child_first _ _ _ (unless _ _ (done refl refl)) (unless _ _ (done refl refl)))))))
plan_first base t (Call.ReadPage f) = window_first _ _ _ _ _ (page_said _ _ _)
plan_first base t (Call.ReadEntry d gpa level) =
    spot_first _ _ _ _ _ _ _ _ _ none_besides (walk_first (λ p. p) _ _ _ _ (λ _ _. refl) refl (entry_said level _ _ _ _))
plan_first base t (Call.CacheWb) = swept refl refl

-- A refusal leaves tables and gauge as they were.
pub record Kept (t : Tables) (g : Gauge) (o : Outcome) : Type 0 where
  pub kept : (number_of o.answer ≡ 0 → ⊥) → (o.tables ≡ t) × (o.gauge ≡ g)

-- what every ask comes to: the number of its first check that fails, a refusal that changes nothing, and it reads out what it may
pub record Settles (t : Tables) (g : Gauge) (reads : Bool) (o : Outcome) (cs : List Check) : Type 0 where
  pub is : number_of o.answer ≡ first_no cs
  pub same : Kept t g o
  pub tells : Tells reads o.answer

module _ {t : Tables} {g : Gauge} {r : Bool} where
  accepts : (t' : Tables) (g' : Gauge) → Settles t g r (outcome (Ok Reading.Done) t' g') []
  unfolding first_no values_of Tells
  accepts t' g' = record { is = refl; same = record { kept = λ n. absurd (n refl) }; tells = tt }

  else_no : {o : Outcome} {cs : List Check} (w : Reason) (b : Bool) → Settles t g r o cs
      → Settles t g r (choose b o (outcome (Err (No (fault_of w) 0)) t g)) (check w b ∷ cs)
  unfolding first_no choose values_of Tells
  else_no w true e = record { is = e.is; same = e.same; tells = e.tells }
  else_no w false e = record { is = number_is w; same = record { kept = λ _. (refl, refl) }; tells = tt }

  by_plan : {s : Tables} {v : View} {a : Reading} {cs : List Check} (p : Plan) → Numbers (row r s v a) p cs → Settles t g r (settled g (carried t p)) cs
  unfolding number_p TellsP Tells settled carried gauge_after given choose values_of
  by_plan (Err a) e = record { is = e.is; same = record { kept = λ n. (refl, rw (ne_eqb (number_of (Err a)) 0 n)) }; tells = e.tells }
  by_plan (Ok (Tell a)) e = record { is = reads_none a ∙ e.is; same = record { kept = λ n. absurd (n (reads_none a)) }; tells = e.tells }
  by_plan (Ok (Do d)) e = record { is = e.is; same = record { kept = λ n. absurd (n refl) }; tells = tt }
  by_plan (Ok (Each w)) e = record { is = e.is; same = record { kept = λ n. absurd (n refl) }; tells = tt }

pub settles : (base : Hpa) (t : Tables) (g : Gauge) (a : Ask) → Settles t g (reads_out a) (ask_of base t g a) (ask_checks base t g a)
unfolding ask_of ask_checks reads_out call_of rule_of marks_of reset_of given choose
settles base t g (Ask.Host c) = else_no tables _ (else_no marks _ (by_plan _ (plan_first base t c)))
settles base t g (Ask.Marks raise clear) = else_no tables _ (else_no operand _ (accepts _ _))
settles base t g (Ask.Reset) = else_no tables _ (accepts _ _)
settles base t g (Ask.Unreadable) = else_no unreadable false (accepts t g)

-- A call's answer has the number of the first check of its row that fails, 13's checks first, and 0 where none fails.
pub answered : (base : Hpa) (t : Tables) (g : Gauge) (c : Call) → number_of (call_of base t g c).answer ≡ first_no (all_checks base t g c)
unfolding ask_of ask_checks
answered base t g c = (settles base t g (Ask.Host c)).is

-- a call is refused with 13, or its rule has its way
pub by_call : (P : Outcome → Type 0) (base : Hpa) (t : Tables) (g : Gauge) (c : Call) → (lent_ok base t ≡ true → P (rule_of base t g c))
    → P (outcome (Err (No Fault.Range 0)) t g) → P (call_of base t g c)
unfolding call_of
by_call P base t g c f z = choose_both P _ _ _ (λ ok. choose_both P _ _ _ (λ _. f ok) λ _. z) λ _. z

-- So a number is given exactly when a check of that number fails and none before it does ..
pub fails_given : (n : ℕ) (cs : List Check) → Fails n cs → first_no cs ≡ n
unfolding first_no choose
fails_given n [] f = elim f [ ]
fails_given n (c ∷ cs) (here e) = e
fails_given n (c ∷ cs) (later f) = fails_given n cs f

-- .. and 0 exactly when none fails.
pub passes_given : (cs : List Check) → Passes cs → first_no cs ≡ 0
unfolding first_no choose
passes_given [] none = refl
passes_given (c ∷ cs) (one p) = passes_given cs p

by_why : (w : Reason) (b : Bool) (cs : List Check) → Fails (first_no cs) cs ⊎ Passes cs
    → Fails (first_no (check w b ∷ cs)) (check w b ∷ cs) ⊎ Passes (check w b ∷ cs)
unfolding first_no choose
by_why w false cs r = inl (here refl)
by_why w true cs (inl f) = inl (later f)
by_why w true cs (inr p) = inr (one p)

pub given_why : (cs : List Check) → Fails (first_no cs) cs ⊎ Passes cs
given_why [] = inr none
given_why (c ∷ cs) = by_why c.why c.well cs (given_why cs)

-- The checks of every row stand in the order of the paper's paragraph "Order", reclaim's own order included; none is 15's.
pub ordered : (base : Hpa) (t : Tables) (g : Gauge) (c : Call) → in_order 1 (all_checks base t g c) ≡ true
unfolding in_order choose checks_of
ordered base t g (Call.Create f k) = refl
ordered base t g (Call.KeyConfig d) = refl
ordered base t g (Call.AddCx d f) = refl
ordered base t g (Call.Init d) = refl
ordered base t g (Call.SeptAdd d gpa level f) = refl
ordered base t g (Call.PageAdd d gpa f) = refl
ordered base t g (Call.Finalize d) = refl
ordered base t g (Call.PageAug d gpa f) = refl
ordered base t g (Call.Block d gpa level) = refl
ordered base t g (Call.Track d) = refl
ordered base t g (Call.Unblock d gpa level) = refl
ordered base t g (Call.PageRemove d gpa) = refl
ordered base t g (Call.SeptRemove d gpa level) = refl
ordered base t g (Call.FlushDone d) = refl
ordered base t g (Call.KeyFree d) = refl
ordered base t g (Call.Reclaim f) = choose_both (λ (cs : List Check). in_order 3 cs ≡ true) (kind_is t (window base t f) TDR) _ _ (λ _. refl) λ _. refl
ordered base t g (Call.ReadPage f) = refl
ordered base t g (Call.ReadEntry d gpa level) = refl
ordered base t g (Call.CacheWb) = refl

-- readpage refuses only with 13 or 1.
pub readpage_refuses : (base : Hpa) (t : Tables) (g : Gauge) (f : Hpa) → let n = number_of (call_of base t g (Call.ReadPage f)).answer in
    (n ≡ 0) ⊎ ((n ≡ 1) ⊎ (n ≡ 13))
unfolding checks_of first_no
readpage_refuses base t g f =
    let P : ℕ → Type 0 = λ n. (n ≡ 0) ⊎ ((n ≡ 1) ⊎ (n ≡ 13)) in
    let tail = choose_both P _ _ _ (λ _. inl refl) λ _. inr (inl refl) in
    rw (answered base t g (Call.ReadPage f)) (choose_both P _ _ _ (λ _. choose_both P _ _ _ (λ _. tail) λ _. inr (inr refl)) λ _. inr (inr refl))

-- cachewb refuses only with 13, whatever its neighbours are in.
pub cachewb_refuses : (base : Hpa) (t : Tables) (g : Gauge) → let n = number_of (call_of base t g Call.CacheWb).answer in (n ≡ 0) ⊎ (n ≡ 13)
unfolding checks_of first_no
cachewb_refuses base t g =
    let P : ℕ → Type 0 = λ n. (n ≡ 0) ⊎ (n ≡ 13) in
    rw (answered base t g Call.CacheWb) (choose_both P _ _ _ (λ _. choose_both P _ _ _ (λ _. inl refl) λ _. inr refl) λ _. inr refl)
