-- One lemma for each way in which a rule goes on: the number of a rule is that of the first check that fails, and its edit the row's effect.
use Rattle.std.specs.Prelude.{Option, Some, None, Ok, Err, Result}
use Rattle.base_rules.specs.Basics.{◌≡◌, Bool, true, false, not, List, [], ◌∷◌, ◌⊎◌, ℕ, ◌≤◌, length, choose, given, on_option, on_result, and_then}
use Rattle.base_rules.proofs.Facts.{refl, inl, inr, arith}
use Rattle.base_units.specs.{Limits.between, Address.frame_of, declared.address.Hpa.Hpa, declared.address.Gpa.Gpa, declared.address.Pfn.Pfn}
use Rattle.base_levels.specs.Level.{level_ok, gpa_fits}
use Rattle.book_stock.specs.Bits.{in_use}
use Rattle.book_ledger.specs.{Codes.TDR, Tables.Tables, declared.words.Entry.Entry, Tables.slot, declared.tables.Slot.Slot}
use Rattle.book_walk.specs.{Walk.on_walk, Walk.Walk, declared.Stray.TheVariants.Stopped, declared.Stray.TheVariants.Foreign}
use Rattle.base_calls.specs.{Answers.values_of, Answers.number_of, Answers.Answer, Answers.number_of_fault, declared.Fault.Fault}
use Rattle.call_plan.specs.Lookup.{bit_in, frame_operand, no_frame, domain_for, parties_for, built_for, spot_operand, spot_for, Operand, Lookup}
use Rattle.call_plan.specs.{Entries.walk_of, Entries.entry_for, Entries.is_tracked, Changes.refuse}
use Rattle.call_plan.specs.{declared.lookup.Subject.Subject, declared.edit.Edit.Edit, declared.edit.Sweep.Sweep, Lookup.Parties, Entries.Reach}
use Rattle.call_trees.specs.Trees.{tracked_for}
use Rattle.fact_keeps.specs.Views.{View, view}
use Rattle.fact_keeps.proofs.Stores.{new_frame, new_domain, new_page, new_entry, new_use, wiped_domain, wiped_page, wiped_entry}
use Rattle.fact_keeps.proofs.Sweeps.{swept_domain}
use Rattle.fact_theorems.specs.Order.{Reason, tables, marks, operand, domain, record', lifecycle, pages, op_state, offered, key, stopped, foreign, entry}
use Rattle.fact_theorems.specs.Order.{untracked, emptied, remain, stock, epoch, frame, count, unreadable, fault_of, number, place, Check, check, first_no}
use Rattle.fact_theorems.specs.Checks.{in_window, named, record_of, window, inside, domain_at_hpa, kind_is, goes_on, follows, arrived, block, index, the_one}
use Rattle.fact_theorems.specs.Checks.{spot, is_domain, built, walked, on_entry, own}
use Rattle.call_plan.specs.{Edits.Plan, declared.edit.Deed.TheVariants.Do, declared.edit.Deed.TheVariants.Each, declared.edit.Deed.TheVariants.Tell}
use Rattle.base_calls.specs.declared.{Reading.Reading, Refusal.TheVariants.No, Refusal.TheVariants.Stop, Refusal.Refusal}

-- the number that a plan answers
unfoldable pub number_p : Plan → ℕ
number_p (Err r) = number_of (Err r)
number_p (Ok d) = 0

-- what a plan reads out: level and state at 6 and 7 alone, a page or an entry only where the call reads
unfoldable pub Tells : Bool → Answer → Type 0
Tells reads (Ok Reading.Done) = Unit
Tells reads (Ok (Reading.Page k o)) = reads ≡ true
Tells reads (Ok (Reading.Entry l s h)) = reads ≡ true
Tells reads (Err (No w k)) = Unit
Tells reads (Err (Stop w l s)) = (number_of_fault w ≡ 6) ⊎ (number_of_fault w ≡ 7)

unfoldable pub TellsP : Bool → Plan → Type 0
TellsP reads (Err r) = Tells reads (Err r)
TellsP reads (Ok (Tell a)) = Tells reads (Ok a)
TellsP reads (Ok (Do e)) = Unit
TellsP reads (Ok (Each w)) = Unit

-- the view after an edit
abbrev pub edited : Edit → View → View
edited e s = record {
  frame = new_frame e.frame s.frame;
  domain = new_domain e.domain (wiped_domain e.stock s.domain);
  control = new_page e.page (wiped_page e.stock s.control);
  entry = new_entry e.entry (wiped_entry e.stock s.entry);
  used = new_use e.stock s.used;
}

-- .. and after a sweep
abbrev swept_view : Sweep → Tables → View
swept_view w t = record {
  frame = (view t).frame;
  domain = λ r. swept_domain w ((view t).used (bit_in t r)) ((view t).domain r);
  control = (view t).control;
  entry = (view t).entry;
  used = (view t).used;
}

-- of a call's row: whether it reads, the tables before it, its effect, and what is read out where it is accepted
pub record Row : Type 0 where
  pub reads : Bool
  pub before : Tables
  pub effect : View
  pub answer : Reading

abbrev pub row : Bool → Tables → View → Reading → Row
row r t v a = record { reads = r; before = t; effect = v; answer = a }

-- a plan that accepts does the row's effect, and answers as the row says
unfoldable pub Does : Row → Plan → Type 0
Does r (Err e) = Unit
Does r (Ok (Tell a)) = (view r.before ≡ r.effect) × (a ≡ r.answer)
Does r (Ok (Do e)) = (edited e (view r.before) ≡ r.effect) × (Reading.Done ≡ r.answer)
Does r (Ok (Each w)) = (swept_view w r.before ≡ r.effect) × (Reading.Done ≡ r.answer)

-- a plan's number is that of the first check that fails, it reads out what it may, and it does the row's effect
pub record Numbers (r : Row) (p : Plan) (cs : List Check) : Type 0 where
  pub is : number_p p ≡ first_no cs
  pub tells : TellsP r.reads p
  pub does : Does r p

-- every reason has a number from 1 to 15, and only `unreadable`, whose place is 0, has 15
pub numbered : (w : Reason) → (1 ≤ number w) × (number w ≤ 15) × (1 ≤ place w → number w ≤ 14)
numbered tables = omega arith
numbered marks = omega arith
numbered operand = omega arith
numbered domain = omega arith
numbered record' = omega arith
numbered lifecycle = omega arith
numbered pages = omega arith
numbered op_state = omega arith
numbered offered = omega arith
numbered key = omega arith
numbered stopped = omega arith
numbered foreign = omega arith
numbered entry = omega arith
numbered untracked = omega arith
numbered emptied = omega arith
numbered remain = omega arith
numbered stock = omega arith
numbered epoch = omega arith
numbered frame = omega arith
numbered count = omega arith
numbered unreadable = omega arith

pub done : {r : Row} {e : Edit} → edited e (view r.before) ≡ r.effect → Reading.Done ≡ r.answer → Numbers r (Ok (Do e)) []
unfolding number_p first_no TellsP Does
done q a = record { is = refl; tells = tt; does = (q, a) }

pub swept : {r : Row} {w : Sweep} → swept_view w r.before ≡ r.effect → Reading.Done ≡ r.answer → Numbers r (Ok (Each w)) []
unfolding number_p first_no TellsP Does
swept q a = record { is = refl; tells = tt; does = (q, a) }

pub read : {t : Tables} (a : Reading) → Tells true (Ok a) → Numbers (row true t (view t) a) (Ok (Tell a)) []
unfolding number_p first_no TellsP Does
read a h = record { is = refl; tells = h; does = (refl, refl) }

-- both readings of the paper give a reason the same number
pub number_is : (w : Reason) → number_of_fault (fault_of w) ≡ number w
number_is tables = refl
number_is marks = refl
number_is operand = refl
number_is domain = refl
number_is record' = refl
number_is lifecycle = refl
number_is pages = refl
number_is op_state = refl
number_is offered = refl
number_is key = refl
number_is stopped = refl
number_is foreign = refl
number_is entry = refl
number_is untracked = refl
number_is emptied = refl
number_is remain = refl
number_is stock = refl
number_is epoch = refl
number_is frame = refl
number_is count = refl
number_is unreadable = refl

module _ {r : Row} {cs : List Check} where
  pass : {p : Plan} (w : Reason) → Numbers r p cs → Numbers r p (check w true ∷ cs)
  unfolding first_no choose
  pass w e = record { is = e.is; tells = e.tells; does = e.does }

  pub no : (w : Reason) (k : ℕ) → Numbers r (refuse (fault_of w) k) (check w false ∷ cs)
  unfolding number_p first_no choose values_of TellsP Tells Does
  no w k = record { is = number_is w; tells = tt; does = tt }

  stops : (w : Reason) → (number w ≡ 6) ⊎ (number w ≡ 7) → (l s : ℕ) → Numbers r (Err (Stop (fault_of w) l s)) (check w false ∷ cs)
  unfolding number_p first_no choose values_of TellsP Tells Does
  stops w h l s = record { is = number_is w; tells = rw (number_is w) h; does = tt }

  -- a check on the way to what K makes of x, else what K makes of z
  step : {X : Type 0} {x z : X} {w : Reason} (K : X → Plan) (b : Bool) → Numbers r (K z) (check w false ∷ cs) → (b ≡ true → Numbers r (K x) cs)
      → Numbers r (K (choose b x z)) (check w b ∷ cs)
  unfolding choose
  step K true n e = pass _ (e refl)
  step K false n e = n

  -- a check, else the refusal of its reason; a refusal where a test holds
  pub needed : {p : Plan} {w : Reason} {b : Bool} (k : ℕ) → Numbers r p cs → Numbers r (choose b p (refuse (fault_of w) k)) (check w b ∷ cs)
  needed k e = step (λ p. p) _ (no _ k) λ _. e

  pub unless : {p : Plan} {w : Reason} (b : Bool) (k : ℕ) → Numbers r p cs → Numbers r (choose b (refuse (fault_of w) k) p) (check w (not b) ∷ cs)
  unfolding choose
  unless true k e = no _ k
  unless false k e = pass _ e

-- two ways, each with checks and an effect of its own
pub either : {r : Bool} {s : Tables} {v w : View} {a : Reading} {p q : Plan} {cs ds : List Check} (b : Bool)
    → Numbers (row r s v a) p cs → Numbers (row r s w a) q ds
    → Numbers (row r s (choose b v w) a) (choose b p q) (choose b cs ds)
unfolding choose
either true e f = e
either false e f = f

-- a check on one way alone, which must not fail there
pub child_first : {r : Bool} {s : Tables} {v w : View} {y : Reading} {p q : Plan} {cs : List Check} (a b : Bool) (k : ℕ)
    → Numbers (row r s v y) p cs → Numbers (row r s w y) q cs
    → Numbers (row r s (choose a v w) y) (choose a (choose b p (refuse Fault.Link k)) q) (check count (choose a b true) ∷ cs)
unfolding choose
child_first true b k e f = needed k e
child_first false b k e f = pass _ f

-- ---- operands: o names the frame m where none of the checks `ops` fails
pub record Besides (o : Operand) (m : Pfn) (ops : List Check → List Check) : Type 0 where
  pub then : {r : Row} {cs : List Check} (K : Operand → Plan) → ((k : ℕ) → K (Err (No Fault.Operand k)) ≡ refuse Fault.Operand k)
      → Numbers r (K (Ok m)) cs → Numbers r (K o) (ops cs)

pub none_besides : Besides no_frame (record { 0 = 0 }) (λ cs. cs)
none_besides = record { then = λ K z e. e }

by_place : (at : Option Pfn) (k : ℕ)
    → Besides (on_option at (Err (No Fault.Operand k)) Ok) (on_option at (record { 0 = 0 }) λ n. n) (λ cs. check operand (on_option at false λ n. true) ∷ cs)
unfolding on_option
by_place (Some n) k = record { then = λ K z e. pass _ e }
by_place None k = record { then = λ K z e. rw (z k) (no operand k) }

pub frame_besides : (base : Hpa) (frames : ℕ) (hpa : Hpa) (j : ℕ)
    → Besides (frame_operand base frames hpa j) (named base frames hpa) (λ cs. check operand (in_window base frames hpa) ∷ cs)
unfolding frame_operand in_window named
frame_besides base frames hpa j = by_place (frame_of base frames hpa) j

spot_besides : {o : Operand} {m : Pfn} {ops : List Check → List Check} (gpa : Gpa) (level lowest : ℕ) → Besides o m ops
    → Besides (spot_operand gpa level lowest o) m (λ cs. check operand (gpa_fits gpa level) ∷ check operand (level_ok lowest level) ∷ ops cs)
unfolding spot_operand
spot_besides gpa level lowest b = record {
  then = λ K z e. step K _ (rw (z 1) (no operand 1)) λ _. step K _ (rw (z 2) (no operand 2)) λ _. b.then K z e;
}

pub window_first : {r : Row} {cs : List Check} (base : Hpa) (frames : ℕ) (hpa : Hpa) (k : ℕ) (next : Pfn → Plan) → Numbers r (next (named base frames hpa)) cs
    → Numbers r (and_then (frame_operand base frames hpa k) next) (check operand (in_window base frames hpa) ∷ cs)
unfolding on_result
window_first base frames hpa k next e = (frame_besides base frames hpa k).then (λ o. and_then o next) (λ _. refl) e

-- a lookup that goes on, and what stands behind it
after : {r : Row} {cs : List Check} {A B : Type 0} (p : Result A Refusal) (next : A → Result B Refusal) (k : B → Plan)
    → Numbers r (and_then p λ x. and_then (next x) k) cs → Numbers r (and_then (and_then p next) k) cs
unfolding on_result
after (Err e) next k n = n
after (Ok x) next k n = n

-- ---- the domain: D, of the operands besides it
abbrev asked : (Pfn → Parties) → (Subject × Pfn → Plan) → Operand → Plan
asked next k f = and_then (and_then f next) k

pub parties_first : {r : Row} {cs : List Check} {o : Operand} {m : Pfn} {ops : List Check → List Check} (base : Hpa) (t : Tables) (d : Hpa)
    (k : Subject × Pfn → Plan) → Besides o m ops → Numbers r (k (domain_at_hpa base t d, m)) cs
    → Numbers r (and_then (parties_for base t d o) k) (inside base t d (ops (is_domain t (window base t d) cs)))
unfolding parties_for domain_for given on_result
parties_first {m = m} base t d k b e =
    let K : Lookup → Plan = λ q. and_then (and_then q λ x. Ok (x, m)) k in
    (frame_besides base (length t.frames) d 0).then (asked _ k) (λ _. refl)
    (b.then (asked _ k) (λ _. refl) (step K _ (no domain 0) λ _. step K _ (no record' 0) λ _. e))

pub built_first : {r : Row} {cs : List Check} {o : Operand} {m : Pfn} {ops : List Check → List Check} (base : Hpa) (t : Tables) (d : Hpa) (least most : ℕ)
    (k : Subject × Pfn → Plan) → Besides o m ops → Numbers r (k (domain_at_hpa base t d, m)) cs
    → Numbers r (and_then (built_for base t d o least most) k) (inside base t d (ops (built t (window base t d) least most cs)))
unfolding built_for on_result
built_first {o = o} base t d least most k b e =
    let K : Parties → Plan = λ p. and_then p k in
    after (parties_for base t d o) _ _
    (parties_first base t d _ b (step K _ (no lifecycle 0) λ _. step K _ (no pages 0) λ _. step K _ (no op_state 0) λ _. e))

pub spot_first : {r : Row} {cs : List Check} {o : Operand} {m : Pfn} {ops : List Check → List Check} (base : Hpa) (t : Tables) (d : Hpa) (gpa : Gpa)
    (level lo least most : ℕ) (k : Subject × Pfn → Plan) → Besides o m ops → Numbers r (k (domain_at_hpa base t d, m)) cs
    → Numbers r (and_then (spot_for base t d gpa level lo o least most) k) (spot base t d gpa level lo (ops (built t (window base t d) least most cs)))
unfolding spot_for given
spot_first base t d gpa level lo least most k b e = built_first base t d least most k (spot_besides gpa level lo b) e

-- a domain that reclaim looks for: 14 whatever is wrong
pub owner_first : {r : Row} {cs : List Check} (t : Tables) (n : Pfn) (k : Subject → Plan) → Numbers r (k (record_of t n)) cs
    → Numbers r (on_result (domain_for t n) (λ a. refuse Fault.Link 0) k)
    (check record' (kind_is t n TDR) ∷ check record' (in_use t.stock (record_of t n).bit) ∷ cs)
unfolding domain_for given on_result
owner_first t n k e = let K : Lookup → Plan = λ q. on_result q (λ a. refuse Fault.Link 0) k in step K _ (no record' 0) λ _. step K _ (no record' 0) λ _. e

-- ---- the entry
pub walk_first : {r : Row} {cs : List Check} {X : Type 0} (K : X → Plan) (w : Walk) (stop : ℕ → ℕ → X) (lost : X) (k : ℕ → ℕ → X)
    → ((l s : ℕ) → K (stop l s) ≡ Err (Stop Fault.Walk l s)) → K lost ≡ refuse Fault.Link 0
    → Numbers r (K (k (block w) (index w))) cs → Numbers r (K (on_walk w stop lost k)) (walked w cs)
unfolding on_walk goes_on follows block index
walk_first K (Ok s) stop lost k p q e = pass _ (pass _ e)
walk_first K (Err (Stopped l s)) stop lost k p q e = rw (p l s) (stops stopped (inl refl) l s)
walk_first K (Err Foreign) stop lost k p q e = rw q (pass _ (no foreign 0))

pub reach_first : {r : Row} {cs : List Check} (t : Tables) (x : Subject) (gpa : Gpa) (level least most : ℕ) (k : Slot × Entry → Plan)
    → (between least (arrived t (walk_of t x gpa level)).state most ≡ true
    → Numbers r (k (slot (block (walk_of t x gpa level)) (index (walk_of t x gpa level)), arrived t (walk_of t x gpa level))) cs)
    → Numbers r (and_then (entry_for t x gpa level least most) k) (on_entry t x gpa level least most λ _. cs)
unfolding entry_for given on_result
reach_first t x gpa level least most k e =
    let K : Reach → Plan = λ q. and_then q k in walk_first K _ _ _ _ (λ _ _. refl) refl (step K _ (stops entry (inr refl) _ _) e)

-- F's 2 before the entry
pub offered_first : {r : Row} {cs : List Check} {b : Bool} (j : ℕ) (q : Reach) (k : Slot × Entry → Plan) → Numbers r (and_then q k) cs
    → Numbers r (and_then (choose b q (Err (No Fault.Kind j))) k) (check offered b ∷ cs)
unfolding on_result
offered_first j q k e = step (λ q. and_then q k) _ (no offered j) λ _. e

-- 8 and the frame's 14 after the entry
pub tracked_first : {r : Row} {cs : List Check} {w : Reason} (t : Tables) (x : Subject) (gpa : Gpa) (level least most : ℕ) (k : Slot × Entry → Plan)
    → Numbers r (refuse Fault.Link 0) (check w false ∷ cs) → (between least (arrived t (walk_of t x gpa level)).state most ≡ true
    → Numbers r (k (slot (block (walk_of t x gpa level)) (index (walk_of t x gpa level)), arrived t (walk_of t x gpa level))) cs)
    → Numbers r (and_then (tracked_for t x gpa level least most) k)
    (on_entry t x gpa level least most λ e. check untracked (is_tracked t.frames e.frame x) ∷ own w t x e cs)
unfolding tracked_for on_result
tracked_first t x gpa level least most k n e =
    let K : Reach → Plan = λ q. and_then q k in
    after (entry_for t x gpa level least most) _ _ (reach_first t x gpa level least most _ λ h. step K _ (no untracked 0) λ _. step K _ n λ _. e h)

-- ---- the stock
pub stock_first : {r : Row} {cs : List Check} (l : Option ℕ) (k : ℕ → Plan) → Numbers r (k (the_one l)) cs
    → Numbers r (on_option l (refuse Fault.Stock 0) k) (check stock (on_option l false λ b. true) ∷ cs)
unfolding on_option the_one
stock_first (Some b) k e = pass _ e
stock_first None k e = no stock 0
