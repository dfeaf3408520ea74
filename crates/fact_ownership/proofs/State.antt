-- What the domain, the walk and the entry of a call are in a sound state that answer 13 has nothing to say of: plan/specs' own lookups, once for all calls.
use Rattle.std.specs.Prelude.{Ok}
use Rattle.base_rules.specs.Basics.{◌≡◌, Bool, true, ℕ, zero, suc, ◌<◌, ◌≤◌, ◌+◌, length, ltb, choose, given}
use Rattle.base_rules.proofs.Facts.{refl, sym, ◌∙◌, true≢false, arith, eqb-true, eq-eqb, ne_eqb, lt-ltb, choose_both, by_eq}
use Rattle.base_levels.specs.Level.{top_level, index_at}
use Rattle.base_units.specs.{Limits.table_entries, declared.address.Hpa.Hpa, declared.address.Gpa.Gpa, declared.address.Pfn.Pfn}
use Rattle.book_ledger.specs.{Codes.NDA, Codes.TDR, Codes.EPT, Codes.FREE, Codes.NL_MAPPED, Tables.Tables}
use Rattle.book_ledger.specs.declared.words.{Domain.Domain, Entry.Entry}
use Rattle.book_walk.specs.Walk.{entry_type, own_frame, walk_from}
use Rattle.call_plan.specs.{Lookup.domain_for, Entries.entry_for, declared.lookup.Subject.Subject}
use Rattle.fact_keeps.specs.Views.{kind, number, frame, view}
use Rattle.fact_ownership.specs.Owned.{points, found, tree, Keyed, Belongs, root_block}
use Rattle.fact_ownership.specs.{Reached.extent, Reached.Lists, Always.a_record, Always.a_table}
use Rattle.fact_ownership.proofs.{Walk.Path·to, Walk.here, Walk.down, Domain.Mine, Domain.owns_size, Tidy.Tidy}
use Rattle.fact_ownership.proofs.{Sound.held, Sound.Sound, Sound.OnWay, Room.entry_mine, Room.has_child_fact, Room.child_room}
use Rattle.fact_keeps.proofs.{Ranged.between_true, Ranged.both_of, Ranged.Lent, Ranged.bit_is, Ranged.root_is, Facts.in_window_fact, Lookups.record_low}
use Rattle.fact_keeps.proofs.Says.{Says, is, not, ReachSays, WalkSays, at, stopped, on_walk_fact}
use Rattle.fact_ownership.proofs.Facts.{Mild, mild_no, mild_stop, table_shape, fits_state}
use Rattle.base_calls.specs.declared.Fault.{Fault}

pub record State (base : Hpa) (t : Tables) (l : Lists) : Type 0 where
  pub lent : Lent base t
  pub ok : Sound (extent t) (view t) l
  pub tidy : Tidy (extent t) (view t)

-- the record of TDR d
abbrev pub record_of : Tables → ℕ → Domain
record_of t d = (view t).domain (number (view t) d)

-- the domain of TDR d, as a rule finds it
abbrev pub looked : Tables → ℕ → Subject
looked t d = record {
  tdr = frame d;
  rec = number (view t) d;
  bit = (extent t).tables + number (view t) d;
  root = root_block (extent t) (view t) d;
  top = top_level;
  dom = record_of t d;
}

pub record IsDomain (t : Tables) (d : ℕ) (x : Subject) : Type 0 where
  pub kind : kind (view t) d ≡ TDR
  pub is : x ≡ looked t d

-- entry i of block b, on the way of d's tree
pub record IsSpot (t : Tables) (d b i : ℕ) : Type 0 where
  pub path : OnWay (extent t) (view t) d b
  pub place : i < table_entries

pub record IsEntry (t : Tables) (d least most b i : ℕ) (e : Entry) : Type 0 where
  pub spot : IsSpot t d b i
  pub entry : e ≡ (view t).entry b i
  pub state : (least ≤ ((view t).entry b i).state) × (((view t).entry b i).state ≤ most)

module _ {base : Hpa} {t : Tables} {l : Lists} (st : State base t l) where
  -- a TDR's record is in use, and its root's block is the record's
  pub domain_is_fact : (n : Pfn) → kind (view t) n.0 ≡ TDR → domain_for t n ≡ Ok (looked t n.0)
  unfolding domain_for given choose
  domain_is_fact n k =
      let low = record_low base t st.lent n.0 k in
      rw (eq-eqb (kind (view t) n.0) TDR k, bit_is t _ low, root_is t _ low, st.ok.used TDR n.0 a_record k) refl

  pub domain_for_fact : (n : Pfn) → Says (IsDomain t n.0) Mild (domain_for t n)
  domain_for_fact n = by_eq (kind (view t) n.0) TDR (λ k. rw (domain_is_fact n k) (is (record { kind = k; is = refl })))
      (λ k. unfold domain_for given choose in rw (ne_eqb (kind (view t) n.0) TDR k) (not (mild_no Fault.Kind 0 (omega arith))))

  -- an entry that isn't FREE, on the way of d's tree, names a frame of d's with its type
  pub entry_own : (d b i : ℕ) → Keyed (view t) d → IsSpot t d b i → (((view t).entry b i).state ≡ FREE → ⊥)
      → Mine (view t) d (found (points (view t) b i) (entry_type ((view t).entry b i).state))
  entry_own d b i kd sp ne = entry_mine st.ok kd b i _ sp.place (fits_state _ ne) sp.path

  pub own_frame_fact : (d b i : ℕ) → Keyed (view t) d → IsSpot t d b i → (((view t).entry b i).state ≡ FREE → ⊥)
      → own_frame t.frames t.stock (frame d) ((view t).entry b i) ≡ true
  unfolding own_frame given
  own_frame_fact d b i kd sp ne =
      let m = entry_own d b i kd sp ne in
      both_of _ _ (eq-eqb _ _ m.kind)
      (both_of _ _ (eq-eqb _ _ m.owner)
      (choose_both (λ (x : Bool). x ≡ true) _ _ _ (λ e. st.ok.used EPT (points (view t) b i) a_table (eqb-true _ _ e)) (λ _. refl)))

  -- the walk from a block on d's way ends on d's way
  module _ (d : ℕ) (kd : Keyed (view t) d) (gpa : Gpa) (want : ℕ) where
    pub walk_good : (level block : ℕ) → ((b : ℕ) → Path·to (tree (view t)) table_entries b (suc level) block → OnWay (extent t) (view t) d b)
        → WalkSays (IsSpot t d) ⊥ (walk_from t.frames t.stock t.entries (frame d) gpa want level block)
    unfolding walk_from given index_at
    walk_good zero block f = at {i = index_at gpa zero} (record { path = f block here; place = omega arith })
    walk_good (suc level) block f =
        let i = index_at gpa (suc level) in
        let w : i < table_entries = omega arith in
        choose_both (WalkSays (IsSpot t d) ⊥) _ _ _
        (λ _. at (record { path = f block here; place = w }))
        (λ _. choose_both (WalkSays (IsSpot t d) ⊥) _ _ _
        (λ e.
        let q : ((view t).entry block i).state ≡ NL_MAPPED = eqb-true _ _ e in
        let sp : IsSpot t d block i = record { path = f block here; place = w } in
        choose_both (WalkSays (IsSpot t d) ⊥) _ _ _
        (λ _. walk_good level (number (view t) (points (view t) block i)) (λ b p. f b (down i w (table_shape _ q) p)))
        (λ u. absurd (true≢false (sym (own_frame_fact d block i kd sp (λ z. omega arith)) ∙ u))))
        (λ _. stopped))

  pub entry_for_fact : (d : ℕ) → Keyed (view t) d → (gpa : Gpa) (level least most : ℕ)
      → ReachSays (IsEntry t d least most) Mild (entry_for t (looked t d) gpa level least most)
  unfolding entry_for given
  entry_for_fact d kd gpa level least most =
      on_walk_fact (ReachSays (IsEntry t d least most) Mild) (walk_good d kd gpa level top_level (root_block (extent t) (view t) d) (λ b p. p)) _ _ _
      (λ j k. not (mild_stop Fault.Walk j k (omega arith))) (λ z. absurd z)
      (λ b i sp. choose_both (ReachSays (IsEntry t d least most) Mild) _ _ _
      (λ e. is (record { spot = sp; entry = refl; state = between_true _ _ _ e }))
      (λ _. not (mild_stop Fault.State level _ (omega arith))))

  -- while a frame is free, a domain's count has room; who has a frame has a child
  pub count_room : (d F : ℕ) → kind (view t) d ≡ TDR → F < length t.frames → kind (view t) F ≡ NDA → ltb (record_of t d).children (length t.frames) ≡ true
  count_room d F k h free =
      let o = st.ok.owns d k in
      let room = child_room (view t) d (held (extent t) (view t) l d) o (length t.frames) F (λ f q. in_window_fact t f (λ e. omega arith)) h free in
      lt-ltb (record_of t d).children (length t.frames) (omega (arith, owns_size o))

  pub count_some : (d F : ℕ) → Belongs (view t) d F → kind (view t) d ≡ TDR → 1 ≤ (record_of t d).children
  count_some d F b k = has_child_fact st.ok F b k
