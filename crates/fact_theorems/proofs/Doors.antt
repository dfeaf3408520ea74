-- What holds of every call holds of every ask with the gauge lent, and of every request from C and Rust.
use Rattle.base_rules.specs.Basics.{◌≡◌, Bool, true, false, List, [], ◌∷◌, ℕ, ◌<◌, ◌≤◌, length, choose, all_from}
use Rattle.base_rules.proofs.Facts.{refl, sym, ap, ◌∙◌, true≢false, ⊎_elim, arith, List·getD-eq-default, leb-true, choose_both, both_left, both_right, all_at}
use Rattle.base_units.specs.declared.address.Hpa.{Hpa}
use Rattle.book_gauge.specs.declared.Gauge.{Gauge}
use Rattle.book_ledger.specs.Tables.{Tables}
use Rattle.base_calls.specs.{Answers.number_of, declared.Ask.TheVariants.Unreadable}
use Rattle.base_calls.specs.declared.{Values.Values, Ask.Ask, Ask.TheVariants.Host, Ask.TheVariants.Marks, Ask.TheVariants.Reset}
use Rattle.call_host.specs.Calls.{reset_of}
use Rattle.door_asks.specs.Asks.{ask_of}
use Rattle.door_requests.specs.{Requests.asks, Requests.ask_at, Requests.ask_for, declared.Request.Request}
use Rattle.reefnettle.specs.Door.{ReadOut, handed_out, door_of}
use Rattle.fact_ownership.specs.Reached.{Lists, Reached, Demand3, fresh, called, marked}
use Rattle.fact_ownership.proofs.Demand.{demand3}
use Rattle.fact_theorems.specs.Order.{place, in_order, Check, first_no, Fails}
use Rattle.fact_theorems.specs.Doors.{ask_checks, reads_out, left_after}
use Rattle.fact_theorems.proofs.{Firsts.numbered, Outcomes.reset_kept, Outcomes.Zeros, Outcomes.by_tells}
use Rattle.fact_theorems.proofs.Answers.{choose_eq, Kept, settles, ordered, fails_given, passes_given, given_why}

-- ---- a refusal changes nothing

pub ask_kept : (base : Hpa) (t : Tables) (g : Gauge) (a : Ask) → Kept t g (ask_of base t g a)
ask_kept base t g a = (settles base t g a).same

pub door_kept : (base : Hpa) (t : Tables) (g : Gauge) (r : Request) → ((door_of base t g r).values.number ≡ 0 → ⊥) → ((door_of base t g r).tables ≡ t)
    × ((door_of base t g r).gauge ≡ g)
unfolding door_of
door_kept base t g r = (ask_kept base t g (ask_for r)).kept

-- ---- no second outcome fits the contract of the exported function: two results on one input are equal in every field

pub door_once : (base : Hpa) (t : Tables) (g : Gauge) (r : Request) (v w : Values) (t₁ t₂ : Tables) (g₁ g₂ : Gauge)
    → handed_out v t₁ g₁ ≡ door_of base t g r → handed_out w t₂ g₂ ≡ door_of base t g r → (v ≡ w) × (t₁ ≡ t₂) × (g₁ ≡ g₂)
door_once base t g r v w t₁ t₂ g₁ g₂ p q =
    let e = p ∙ sym q in (ap (λ (o : ReadOut). o.values) e, ap (λ (o : ReadOut). o.tables) e, ap (λ (o : ReadOut). o.gauge) e)

-- ---- each number is that of the first check that fails

pub ask_answered : (base : Hpa) (t : Tables) (g : Gauge) (a : Ask) → number_of (ask_of base t g a).answer ≡ first_no (ask_checks base t g a)
ask_answered base t g a = (settles base t g a).is

pub door_answered : (base : Hpa) (t : Tables) (g : Gauge) (r : Request) → (door_of base t g r).values.number ≡ first_no (ask_checks base t g (ask_for r))
unfolding door_of
door_answered base t g r = ask_answered base t g (ask_for r)

-- ---- "one of the numbered answers": at most 15

first_most : (cs : List Check) → first_no cs ≤ 15
unfolding first_no
first_most [] = omega arith
first_most (c ∷ cs) = choose_both (λ (n : ℕ). n ≤ 15) c.well _ _ (λ _. first_most cs) (λ _. (numbered c.why).1)

pub door_most : (base : Hpa) (t : Tables) (g : Gauge) (r : Request) → (door_of base t g r).values.number ≤ 15
door_most base t g r = rw (door_answered base t g r) (first_most (ask_checks base t g (ask_for r)))

-- no ask but the unreadable one is answered 15, the only number of a check at place 0
first_not_15 : (p : ℕ) (cs : List Check) → 1 ≤ p → in_order p cs ≡ true → first_no cs ≡ 15 → ⊥
unfolding first_no in_order
first_not_15 p [] h o = λ e. omega arith
first_not_15 p (c ∷ cs) h o =
    let k : p ≤ place c.why = leb-true _ _ (both_left _ _ o) in
    choose_both (λ (n : ℕ). n ≡ 15 → ⊥) c.well _ _ (λ _. first_not_15 (place c.why) cs (omega arith) (both_right _ _ o))
    λ _ e. omega (arith, (numbered c.why).2 (omega arith))

readable : Ask → Bool
readable = elim [ Host c ↦ true | Marks raise clear ↦ true | Reset ↦ true | Unreadable ↦ false ]

ask_not_15 : (base : Hpa) (t : Tables) (g : Gauge) (a : Ask) → readable a ≡ true → first_no (ask_checks base t g a) ≡ 15 → ⊥
unfolding ask_checks readable in_order choose
ask_not_15 base t g (Host c) h = first_not_15 1 _ (omega arith) (ordered base t g c)
ask_not_15 base t g (Marks raise clear) h = first_not_15 1 _ (omega arith) refl
ask_not_15 base t g Reset h = first_not_15 1 _ (omega arith) refl
ask_not_15 base t g Unreadable h = absurd (true≢false (sym h))

module _ (base : Hpa) (t : Tables) (g : Gauge) (r : Request) where
  -- "each refusal is given exactly when its rule says so": n is answered if and only if a check of that number fails and none before it does; 0
  -- if and only if none fails
  pub door_given : (n : ℕ) → Fails n (ask_checks base t g (ask_for r)) → (door_of base t g r).values.number ≡ n
  door_given n f = door_answered base t g r ∙ fails_given n _ f

  pub door_why : (n : ℕ) → (n ≡ 0 → ⊥) → (door_of base t g r).values.number ≡ n → Fails n (ask_checks base t g (ask_for r))
  door_why n some e = ⊎_elim
      (λ f. rw (sym (door_answered base t g r) ∙ e) at f)
      (λ p. absurd (some (sym e ∙ door_answered base t g r ∙ passes_given _ p)))
      (given_why (ask_checks base t g (ask_for r)))

  -- 15 exactly for a number that names no call
  pub door_unreadable : length (asks r) ≤ r.call → (door_of base t g r).values.number ≡ 15
  unfolding ask_at ask_checks first_no choose
  door_unreadable h = door_answered base t g r ∙ rw (List·getD-eq-default {A = Ask} (asks r) Unreadable h) refl

  pub door_readable : (door_of base t g r).values.number ≡ 15 → length (asks r) ≤ r.call
  unfolding ask_at all_from readable choose
  door_readable e =
      let named : r.call < length (asks r) → readable (ask_for r) ≡ true = all_at (λ n. readable (ask_at r n)) (length (asks r)) refl r.call in
      let no : r.call < length (asks r) → ⊥ = λ h. ask_not_15 base t g (ask_for r) (named h) (sym (door_answered base t g r) ∙ e) in omega arith

-- ---- "Zeros are read out except at 6, 7 and an accepted read."

pub ask_zeros : (base : Hpa) (t : Tables) (g : Gauge) (a : Ask) → (number_of (ask_of base t g a).answer ≡ 6 → ⊥) → (number_of (ask_of base t g a).answer ≡ 7 → ⊥)
    → (number_of (ask_of base t g a).answer ≡ 0 → reads_out a ≡ false) → Zeros (ask_of base t g a).answer
ask_zeros base t g a = by_tells (reads_out a) _ (settles base t g a).tells

pub door_zeros : (base : Hpa) (t : Tables) (g : Gauge) (r : Request) → ((door_of base t g r).values.number ≡ 6 → ⊥) → ((door_of base t g r).values.number ≡ 7 → ⊥)
    → ((door_of base t g r).values.number ≡ 0 → reads_out (ask_for r) ≡ false)
    → (door_of base t g r).values ≡ record {
      number = (door_of base t g r).values.number;
      kind = 0;
      owner = record { 0 = 0 };
      level = 0;
      state = 0;
      hpa = record { 0 = 0 };
    }
unfolding door_of Zeros
door_zeros base t g r = ask_zeros base t g (ask_for r)

-- ---- reached states stay reached: demand 3 is said of every ask with the gauge lent, and of every request
pub ask_reached : {base : Hpa} {t : Tables} {l : Lists} → Reached base t l → (g : Gauge) (a : Ask)
    → Reached base (ask_of base t g a).tables (left_after base t g a l)
unfolding ask_of left_after
ask_reached r g (Host c) = called r g c
ask_reached r g (Marks raise clear) = marked r g raise clear
ask_reached r g Unreadable = r
ask_reached {base} {t} {l} r g Reset =
    choose_eq (λ (l : Lists). Reached base (reset_of base t g).tables l) _ 0 (fresh t g) λ e. rw ((reset_kept base t g).kept e).0 r

pub door_reached : {base : Hpa} {t : Tables} {l : Lists} → Reached base t l → (g : Gauge) (r : Request)
    → Reached base (door_of base t g r).tables (left_after base t g (ask_for r) l)
unfolding door_of
door_reached s g r = ask_reached s g (ask_for r)

pub door_demand3 : (base : Hpa) (t : Tables) (l : Lists) → Reached base t l → (g : Gauge) (r : Request)
    → Demand3 base (door_of base t g r).tables (left_after base t g (ask_for r) l)
door_demand3 base t l s g r = demand3 base _ _ (door_reached s g r)
