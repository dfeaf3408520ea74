-- What the domain, the walk and the entry of a call are on any tables that pass the range check: plan/specs' own lookups, once for all calls.
use Rattle.base_rules.specs.Basics.{◌≡◌, true, ◌⊎◌, ℕ, zero, suc, ◌+◌, ◌<◌, ◌≤◌, length, choose, given}
use Rattle.base_rules.proofs.Facts.{refl, sym, ◌∙◌, inl, inr, arith, eqb-true, choose_both}
use Rattle.base_units.specs.declared.address.{Hpa.Hpa, Gpa.Gpa, Pfn.Pfn}
use Rattle.book_ledger.specs.{Codes.NDA, Codes.TDR, Codes.EPT, Codes.NL_MAPPED, Codes.NL_BLOCKED, Tables.Tables, declared.words.Entry.Entry}
use Rattle.book_range.specs.Range.{frame_limits}
use Rattle.book_walk.specs.Walk.{entry_type, own_frame, walk_from}
use Rattle.call_plan.specs.{Lookup.domain_for, Entries.entry_for, declared.lookup.Subject.Subject}
use Rattle.fact_keeps.specs.Views.{kind, number, view}
use Rattle.fact_keeps.proofs.Ranged.{IsBlock, between_true, sizes_in, bit_is, root_is, Lent, passed}
use Rattle.fact_keeps.proofs.Facts.{DomainGood, domain_good, in_window_fact}
use Rattle.fact_keeps.proofs.Says.{Says, is, not, ReachSays, WalkSays, at, stopped, foreign, on_walk_fact}
use Rattle.base_calls.specs.declared.Refusal.{Refusal}

-- ---- what a lookup finds; of a refusal, and of a frame that isn't the domain's, nothing is said

pub data Refused (r : Refusal) : Type 0 where
  refused : Refused r

pub data Unknown : Type 0 where
  unknown : Unknown

pub record IsDomain (t : Tables) (x : Subject) : Type 0 where
  pub tdr : x.tdr.0 < length t.frames
  pub rec : x.rec < (sizes_in t).records
  pub bit : x.bit ≡ (sizes_in t).tables + x.rec
  pub root : x.root ≡ (sizes_in t).tables + x.rec
  pub dom : x.dom ≡ (view t).domain x.rec
  pub good : DomainGood (length t.frames) x.dom

pub record IsEntry (t : Tables) (least most b i : ℕ) (e : Entry) : Type 0 where
  pub block : IsBlock t b
  pub state : (least ≤ e.state) × (e.state ≤ most)

-- the frame of an entry that is the domain's and of the entry's type; a table's number
pub record IsOwn (t : Tables) (e : Entry) : Type 0 where
  pub inside : e.frame.0 < length t.frames
  pub type : kind (view t) e.frame.0 ≡ entry_type e.state
  pub table : (e.state ≡ NL_MAPPED) ⊎ (e.state ≡ NL_BLOCKED) → number (view t) e.frame.0 < (sizes_in t).tables

some_type : (n : ℕ) → entry_type n ≡ NDA → ⊥
unfolding entry_type
some_type n =
    let P : ℕ → Type 0 = λ x. x ≡ NDA → ⊥ in
    choose_both P _ _ _ (λ _ q. omega arith) (λ _. choose_both P _ _ _ (λ _ q. omega arith) (λ _ q. omega arith))

table_type : (n : ℕ) → (n ≡ NL_MAPPED) ⊎ (n ≡ NL_BLOCKED) → entry_type n ≡ EPT
unfolding entry_type choose
table_type n (inl q) = rw q refl
table_type n (inr q) = rw q refl

module _ (base : Hpa) (t : Tables) (ok : Lent base t) where
  number_low : (f : ℕ) → (kind (view t) f ≡ NDA → ⊥) → number (view t) f < (frame_limits (sizes_in t) (kind (view t) f)).number
  number_low f h = let w = simp passed at (ok.ranged.frame f (in_window_fact t f h)) in w.1.0

  pub table_low : (f : ℕ) → kind (view t) f ≡ EPT → number (view t) f < (sizes_in t).tables
  unfolding frame_limits choose
  table_low f k = rw k at (number_low f (λ q. omega arith))

  pub record_low : (f : ℕ) → kind (view t) f ≡ TDR → number (view t) f < (sizes_in t).records
  unfolding frame_limits choose
  record_low f k = rw k at (number_low f (λ q. omega arith))

  -- on any tables a refusal may be any
  pub domain_for_fact : (n : Pfn) → Says (IsDomain t) Refused (domain_for t n)
  unfolding domain_for given
  domain_for_fact n =
      let P = Says (IsDomain t) Refused in
      choose_both P _ _ _ (λ e. choose_both P _ _ _ (λ u.
      let k : kind (view t) n.0 ≡ TDR = eqb-true _ _ e in
      let r = record_low n.0 k in
      let g = domain_good _ _ (ok.ranged.record' _ r (rw (bit_is t _ r) at u)).scalars in
      is (record { tdr = in_window_fact t n.0 (λ q. omega arith); rec = r; bit = bit_is t _ r; root = root_is t _ r; dom = refl; good = g }))
      (λ _. not refused)) (λ _. not refused)

  pub own_frame_fact : (tdr : Pfn) (e : Entry) → own_frame t.frames t.stock tdr e ≡ true → IsOwn t e
  unfolding own_frame given
  own_frame_fact tdr e q =
      let w = simp passed at q in
      let i = in_window_fact t e.frame.0 (λ z. some_type e.state (sym w.0 ∙ z)) in
      record { inside = i; type = w.0; table = λ o. table_low _ (w.0 ∙ table_type _ o) }

  -- a walk from a block ends at a block
  module _ (tdr : Pfn) (gpa : Gpa) (want : ℕ) where
    walk_says : (level b : ℕ) → IsBlock t b → WalkSays (λ b _. IsBlock t b) Unknown (walk_from t.frames t.stock t.entries tdr gpa want level b)
    unfolding walk_from given
    walk_says zero b h = at h
    walk_says (suc level) b h =
        let P = WalkSays (λ b _. IsBlock t b) Unknown in
        choose_both P _ _ _ (λ _. at h) (λ _. choose_both P _ _ _ (λ e. choose_both P _ _ _
        (λ o. let l = (own_frame_fact tdr _ o).table (inl (eqb-true _ _ e)) in walk_says level _ (omega arith)) (λ _. foreign unknown)) (λ _. stopped))

  module _ (x : Subject) (d : IsDomain t x) (gpa : Gpa) (level : ℕ) where
    pub walk_for : WalkSays (λ b _. IsBlock t b) Unknown (walk_from t.frames t.stock t.entries x.tdr gpa level x.top x.root)
    walk_for = walk_says x.tdr gpa level x.top x.root (omega (arith, d.root, d.rec))

    pub entry_for_fact : (least most : ℕ) → ReachSays (IsEntry t least most) Refused (entry_for t x gpa level least most)
    unfolding entry_for given
    entry_for_fact least most =
        let P = ReachSays (IsEntry t least most) Refused in
        on_walk_fact P walk_for _ _ _ (λ j k. not refused) (λ _. not refused) (λ b i h. choose_both P _ _ _
        (λ e. is (record { block = h; state = between_true _ _ _ e })) (λ _. not refused))
