-- A rule's lookups, taken apart: what is found is Q, and a refusal is R. Once for those who ask whether tables stay in range, and for those who ask
-- whose frames are whose.
use Rattle.std.specs.Prelude.{Option, Some, None, Result, Ok, Err}
use Rattle.base_rules.specs.Basics.{◌≡◌, true, false, ℕ, ◌<◌, ◌≤◌, length, given, on_option, on_result}
use Rattle.base_rules.proofs.Facts.{refl, arith, eqb-true, ltb-true, choose_both}
use Rattle.base_units.specs.{Address.frame_of, declared.address.Hpa.Hpa, declared.address.Gpa.Gpa, declared.address.Pfn.Pfn}
use Rattle.book_ledger.specs.{Codes.NDA, Codes.CONFIGURED, Codes.FREE, Tables.Tables, declared.words.Entry.Entry, Tables.slot}
use Rattle.book_walk.specs.{Walk.own_frame, Walk.on_walk, Walk.Walk, declared.Stray.TheVariants.Stopped, declared.Stray.TheVariants.Foreign}
use Rattle.call_plan.specs.Lookup.{frame_operand, no_frame, is_nda, domain_for, parties_for, built_for, spot_operand, Operand, Parties}
use Rattle.call_plan.specs.{Lookup.spot_for, Entries.entry_for, declared.lookup.Subject.Subject, Entries.Reach}
use Rattle.call_adds.specs.Adds.{free_for}
use Rattle.call_trees.specs.Trees.{tracked_for}
use Rattle.fact_keeps.specs.Views.{kind, view, place_in}
use Rattle.fact_keeps.proofs.Ranged.{between_true}
use Rattle.base_calls.specs.{Answers.number_of_fault, declared.Fault.Fault, declared.Refusal.Refusal, Operands.D, Operands.GPA, Operands.LEVEL}
use Rattle.base_calls.specs.declared.Refusal.TheVariants.{No}

-- of a result
pub data Says {A : Type 0} (Q : A → Type 0) (R : Refusal → Type 0) : Result A Refusal → Type 0 where
  is : {x : A} → Q x → Says Q R (Ok x)
  not : {r : Refusal} → R r → Says Q R (Err r)

-- .. of two things, each with its name
abbrev pub PartiesSays : (Subject → Pfn → Type 0) → (Refusal → Type 0) → Parties → Type 0
PartiesSays Q R p = Says (λ q. Q q.0 q.1) R p

abbrev pub ReachSays : (ℕ → ℕ → Entry → Type 0) → (Refusal → Type 0) → Reach → Type 0
ReachSays Q R r = Says (λ q. Q q.0.block q.0.index q.1) R r

-- F says whether a walk may meet a frame that isn't the domain's
pub data WalkSays (Q : ℕ → ℕ → Type 0) (F : Type 0) : Walk → Type 0 where
  at : {b i : ℕ} → Q b i → WalkSays Q F (Ok (slot b i))
  stopped : {l j : ℕ} → WalkSays Q F (Err (Stopped l j))
  foreign : F → WalkSays Q F (Err Foreign)

module _ {B : Type 0} (P : B → Type 0) where
  pub on_option_fact : {A : Type 0} (q : Option A) (z : B) (k : A → B) → P z → ((x : A) → q ≡ Some x → P (k x)) → P (on_option q z k)
  unfolding on_option
  on_option_fact q z k f g = elim q as (λ x. q ≡ x → P (on_option x z k)) [ None ↦ λ _. f | Some x ↦ g x ] refl

  pub on_result_fact : {A : Type 0} {Q : A → Type 0} {R : Refusal → Type 0} {q : Result A Refusal} → Says Q R q → (z : Refusal → B) (k : A → B)
      → ((r : Refusal) → R r → P (z r)) → ((x : A) → Q x → P (k x)) → P (on_result q z k)
  unfolding on_result
  on_result_fact o z k f g = elim o as (λ x _. P (on_result x z k)) [ is {x} h ↦ g x h | not {r} h ↦ f r h ]

  pub on_walk_fact : {Q : ℕ → ℕ → Type 0} {F : Type 0} {q : Walk} → WalkSays Q F q → (s : ℕ → ℕ → B) (z : B) (k : ℕ → ℕ → B)
      → ((l j : ℕ) → P (s l j)) → (F → P z) → ((b i : ℕ) → Q b i → P (k b i)) → P (on_walk q s z k)
  unfolding on_walk
  on_walk_fact w s z k f y g = elim w as (λ x _. P (on_walk x s z k)) [ at {b} {i} h ↦ g b i h | stopped {l} {j} ↦ f l j | foreign h ↦ y h ]

-- ---- an hpa's frame is one of the window's

pub record InWindow (base : Hpa) (t : Tables) (hpa : Hpa) (n : Pfn) : Type 0 where
  pub place : place_in base t hpa ≡ Some n
  pub inside : n.0 < length t.frames

pub frame_says : {R : Refusal → Type 0} (base : Hpa) (t : Tables) (hpa : Hpa) (k : ℕ) → R (No Fault.Operand k)
    → Says (InWindow base t hpa) R (frame_operand base (length t.frames) hpa k)
unfolding frame_operand frame_of on_option
frame_says {R} base t hpa k bad =
    let P : Option Pfn → Type 0 = λ q. place_in base t hpa ≡ q → Says (InWindow base t hpa) R (on_option q (Err (No Fault.Operand k)) Ok) in
    let says : P (place_in base t hpa) = choose_both P _ _ _ (λ _. choose_both P _ _ _ (λ _. choose_both P _ _ _
    (λ e q. is (record { place = q; inside = ltb-true _ _ e })) (λ _ _. not bad)) (λ _ _. not bad)) (λ _ _. not bad) in
    says refl

-- ---- D with the other operands

-- D's frame n, what was found of it, and the frame m that is offered
pub record Party (P : Pfn → Type 0) (Q : Pfn → Subject → Type 0) (S : Pfn → Type 0) (x : Subject) (m : Pfn) : Type 0 where
  pub tdr : Pfn
  pub place : P tdr
  pub found : Q tdr x
  pub offered : S m

-- .. built, with an op state from `least` to `most`
pub record Built (T : Subject → Pfn → Type 0) (least most : ℕ) (x : Subject) (m : Pfn) : Type 0 where
  pub party : T x m
  pub life : x.dom.life ≡ CONFIGURED
  pub op : (least ≤ x.dom.op) × (x.dom.op ≤ most)

-- R holds of every refusal but the numbers from 13 on
abbrev pub Mostly : (Refusal → Type 0) → Type 0
Mostly R = (w : Fault) (k : ℕ) → number_of_fault w < 13 → R (No w k)

module _ (base : Hpa) (t : Tables) (R : Refusal → Type 0) (ref : Mostly R) (d : Hpa)
    (Q : Pfn → Subject → Type 0) (found : (n : Pfn) → Says (Q n) R (domain_for t n)) where
  pub parties_say : {S : Pfn → Type 0} (f : Operand) → Says S R f → PartiesSays (Party (InWindow base t d) Q S) R (parties_for base t d f)
  unfolding parties_for
  parties_say {S} f o =
      let P = PartiesSays (Party (InWindow base t d) Q S) R in
      on_result_fact P (frame_says base t d D (ref Fault.Operand D (omega arith))) _ _ (λ r w. not w) (λ n p.
      on_result_fact P o _ _ (λ r w. not w) (λ m s.
      on_result_fact P (found n) _ _ (λ r w. not w) (λ x q. is (record { tdr = n; place = p; found = q; offered = s }))))

  pub built_says : {S : Pfn → Type 0} (f : Operand) → Says S R f → (least most : ℕ)
      → PartiesSays (Built (Party (InWindow base t d) Q S) least most) R (built_for base t d f least most)
  unfolding built_for
  built_says {S} f o least most =
      let P = PartiesSays (Built (Party (InWindow base t d) Q S) least most) R in
      on_result_fact P (parties_say f o) _ _ (λ r w. not w) (λ q p. choose_both P _ _ _ (λ l. choose_both P _ _ _ (λ _. choose_both P _ _ _
      (λ e. is (record { party = p; life = eqb-true _ _ l; op = between_true _ _ _ e })) (λ _. not (ref Fault.OpState D (omega arith))))
      (λ _. not (ref Fault.Pages D (omega arith)))) (λ _. not (ref Fault.Life D (omega arith))))

  pub spot_built : {S : Pfn → Type 0} (gpa : Gpa) (level lowest' : ℕ) (f : Operand) → Says S R f → (least most : ℕ)
      → PartiesSays (Built (Party (InWindow base t d) Q S) least most) R (spot_for base t d gpa level lowest' f least most)
  unfolding spot_for spot_operand given
  spot_built {S} gpa level lowest' f o least most =
      let bad : (k : ℕ) → Says S R (Err (No Fault.Operand k)) = λ k. not (ref Fault.Operand k (omega arith)) in
      built_says _ (choose_both (Says S R) _ _ _ (λ _. choose_both (Says S R) _ _ _ (λ _. o) (λ _. bad LEVEL)) (λ _. bad GPA)) least most

-- a call that offers no frame
pub data Any (m : Pfn) : Type 0 where
  any : Any m

pub no_frame_fact : {R : Refusal → Type 0} → Says Any R no_frame
no_frame_fact = is any

-- ---- an entry for a frame that is offered, and a tracked entry

pub is_nda_fact : (t : Tables) (f : Pfn) → is_nda t.frames f ≡ true → kind (view t) f.0 ≡ NDA
unfolding is_nda given
is_nda_fact t f e = eqb-true _ _ e

-- the entry is Q, and the frame NDA
pub record Offered (Q : ℕ → ℕ → Entry → Type 0) (t : Tables) (f : Pfn) (b i : ℕ) (e : Entry) : Type 0 where
  pub entry : Q b i e
  pub free : kind (view t) f.0 ≡ NDA

-- the entry is Q, and its frame the domain's own
pub record Owned (Q : ℕ → ℕ → Entry → Type 0) (t : Tables) (x : Subject) (b i : ℕ) (e : Entry) : Type 0 where
  pub entry : Q b i e
  pub own : own_frame t.frames t.stock x.tdr e ≡ true

module _ (t : Tables) (R : Refusal → Type 0) (ref : Mostly R) (x : Subject) (gpa : Gpa) (level : ℕ) where
  pub free_says : {Q : ℕ → ℕ → Entry → Type 0} (f : Pfn) (k : ℕ) → ReachSays Q R (entry_for t x gpa level FREE FREE)
      → ReachSays (Offered Q t f) R (free_for t x gpa level f k)
  unfolding free_for
  free_says {Q} f k r =
      let P = ReachSays (Offered Q t f) R in
      choose_both P _ _ _
      (λ z. elim r as (λ q _. P q) [ is h ↦ is (record { entry = h; free = is_nda_fact t f z }) | not h ↦ not h ])
      (λ _. not (ref Fault.Kind k (omega arith)))

  pub tracked_says : {Q : ℕ → ℕ → Entry → Type 0} (least most : ℕ) → ReachSays Q R (entry_for t x gpa level least most)
      → ((b i : ℕ) (e : Entry) → Q b i e → own_frame t.frames t.stock x.tdr e ≡ false → R (No Fault.Link 0))
      → ReachSays (Owned Q t x) R (tracked_for t x gpa level least most)
  unfolding tracked_for
  tracked_says {Q} least most r foreign' =
      let P = ReachSays (Owned Q t x) R in
      on_result_fact P r _ _ (λ a h. not h) (λ q h. choose_both P _ _ _
      (λ _. choose_both P _ _ _ (λ o. is (record { entry = h; own = o })) (λ o. not (foreign' q.0.block q.0.index q.1 h o)))
      (λ _. not (ref Fault.Untracked 0 (omega arith))))
