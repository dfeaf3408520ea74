-- What a sweep leaves of the tables, read number by number, and that it keeps the range check: once for every sweep that gives a lifecycle in range.
use Rattle.base_rules.specs.Basics.{◌≡◌, Bool, true, false, List, ℕ, zero, suc, ◌+◌, ◌*◌, ◌<◌, ◌≤◌, eqb, length, choose, given}
use Rattle.base_rules.proofs.Facts.{refl, ap, ◌∙◌, arith, le-ltb, choose_both, by_eq, by_lt}
use Rattle.base_units.specs.{Limits.record_words, declared.address.Hpa.Hpa, declared.address.Pfn.Pfn}
use Rattle.book_stock.{specs.Bits.in_use, proofs.Uses.spare_unused}
use Rattle.book_ledger.specs.{Codes.WRITTEN_BACK, Sizes.bit_of, Tables.Tables, Tables.domain_at, Tables.set_domain, Tables.page_at, Words.DomainFits}
use Rattle.book_ledger.specs.declared.words.Domain.{Domain}
use Rattle.book_ledger.proofs.Lens.{domain_same, domain_other, page_of_domain}
use Rattle.call_plan.specs.{Edits.with_life, Lookup.bit_in, declared.edit.Sweep.Sweep}
use Rattle.call_carry.specs.Carry.{swept_at, swept_from, swept, swept_tables}
use Rattle.call_carry.proofs.Sweeps.{swept_at_length, swept_length}
use Rattle.fact_keeps.specs.Views.{View, view}
use Rattle.fact_keeps.proofs.Facts.{DomainGood, domain_good, good_domain, domain_fits}
use Rattle.fact_keeps.proofs.{Stores.SameLengths, Ranged.sized, Ranged.sizes_in, Ranged.Lent, Ranged.bit_is}

-- ---- one record

-- what a sweep makes of a record that is in use, or isn't
abbrev pub swept_domain : Sweep → Bool → Domain → Domain
swept_domain w used d = choose used (choose (eqb d.life w.from) (with_life d w.to) d) d

module _ (w : Sweep) (st : List ℕ) (n : ℕ) where
  -- whether record r of words that are m long is in use
  abbrev used_at : ℕ → ℕ → Bool
  used_at m r = in_use st (bit_of m n r)

  module _ (r : ℕ) (ds : List ℕ) where
    at_other : (s : ℕ) → (s ≡ r → ⊥) → domain_at (swept_at w st n r ds) s ≡ domain_at ds s
    unfolding swept_at given
    at_other s ne =
        let P : List ℕ → Type 0 = λ x. domain_at x s ≡ domain_at ds s in
        choose_both P _ _ ds (λ _. choose_both P _ _ ds (λ _. domain_other ds r _ s ne) (λ _. refl)) (λ _. refl)

    at_page : (s i : ℕ) → page_at (swept_at w st n r ds) s i ≡ page_at ds s i
    unfolding swept_at given
    at_page s i =
        let P : List ℕ → Type 0 = λ x. page_at x s i ≡ page_at ds s i in
        choose_both P _ _ ds (λ _. choose_both P _ _ ds (λ _. page_of_domain ds r _ s i) (λ _. refl)) (λ _. refl)

    at_same : r * record_words < length ds → (used_at (length ds) r ≡ true → DomainFits (with_life (domain_at ds r) w.to))
        → domain_at (swept_at w st n r ds) r ≡ swept_domain w (used_at (length ds) r) (domain_at ds r)
    unfolding swept_at given choose
    at_same h fits = elim (used_at (length ds) r)
        as (λ u. (u ≡ true → DomainFits (with_life (domain_at ds r) w.to))
        → domain_at (choose u (choose (eqb (domain_at ds r).life w.from) (set_domain ds r (with_life (domain_at ds r) w.to)) ds) ds) r
        ≡ swept_domain w u (domain_at ds r)) [
          | true ↦ λ f. elim (eqb (domain_at ds r).life w.from)
              as (λ b. domain_at (choose b (set_domain ds r (with_life (domain_at ds r) w.to)) ds) r ≡ choose b (with_life (domain_at ds r) w.to) (domain_at ds r))
              [ true ↦ domain_same ds r _ h (f refl) | false ↦ refl ]
          | false ↦ λ _. refl
        ] fits

  -- ---- k records from r on

  from_other : (k r : ℕ) (ds : List ℕ) (s : ℕ) → ((j : ℕ) → r ≤ j → j < r + k → s ≡ j → ⊥) → domain_at (swept_from w st n r k ds) s ≡ domain_at ds s
  unfolding swept_from
  from_other zero r ds s ne = refl
  from_other (suc k) r ds s ne =
      from_other k (r + 1) (swept_at w st n r ds) s (λ j a b. ne j (omega arith) (omega arith)) ∙ at_other r ds s (ne r (omega arith) (omega arith))

  from_page : (k r : ℕ) (ds : List ℕ) (s i : ℕ) → page_at (swept_from w st n r k ds) s i ≡ page_at ds s i
  unfolding swept_from
  from_page zero r ds s i = refl
  from_page (suc k) r ds s i = from_page k (r + 1) (swept_at w st n r ds) s i ∙ at_page r ds s i

  from_same : (k r : ℕ) (ds : List ℕ) (s : ℕ) → r ≤ s → s < r + k → s * record_words < length ds
      → (used_at (length ds) s ≡ true → DomainFits (with_life (domain_at ds s) w.to))
      → domain_at (swept_from w st n r k ds) s ≡ swept_domain w (used_at (length ds) s) (domain_at ds s)
  unfolding swept_from
  from_same zero r ds s lo hi h f = absurd (omega arith)
  from_same (suc k) r ds s lo hi h f = by_eq s r
      (λ e. from_other k (r + 1) (swept_at w st n r ds) s (λ j a b q. omega arith) ∙ rw e (at_same r ds (rw e at h) (rw e at f)))
      (λ e. let same = at_other r ds s e in let long = swept_at_length w st n r ds in
      from_same k (r + 1) (swept_at w st n r ds) s (omega arith) (omega arith) (rw long h) (rw (long, same) f) ∙ rw (long, same) refl)

-- ---- the tables after a sweep

pub sweep_lengths : (w : Sweep) (t : Tables) → SameLengths t (swept_tables w t)
unfolding swept_tables
sweep_lengths w t = record { frames = refl; domains = swept_length w t.stock (length t.entries) t.domains; stocks = refl; entries = refl }

-- the view after a sweep: the lifecycle of records, and nothing else
pub record AfterSweep (t : Tables) (s' : View) (w : Sweep) : Type 0 where
  pub frames : (f : ℕ) → s'.frame f ≡ (view t).frame f
  pub domains : (r : ℕ) → s'.domain r ≡ swept_domain w ((view t).used (bit_in t r)) ((view t).domain r)
  pub controls : (r i : ℕ) → s'.control r i ≡ (view t).control r i
  pub entries : (b i : ℕ) → s'.entry b i ≡ (view t).entry b i
  pub uses : (b : ℕ) → s'.used b ≡ (view t).used b

pub record KeptSweep (base : Hpa) (t : Tables) (w : Sweep) : Type 0 where
  pub after : AfterSweep t (view (swept_tables w t)) w
  pub lent : Lent base (swept_tables w t)

module _ (base : Hpa) (t : Tables) (ok : Lent base t) where
  -- a record that the tables don't have isn't in use
  beyond : (r : ℕ) → (sizes_in t).records ≤ r → (view t).used (bit_in t r) ≡ false
  unfolding bit_of choose
  beyond r h =
      rw (le-ltb r (sizes_in t).records h) (spare_unused t.stock _ ok.spare (omega (arith, (sized base t ok.sizes).bits)) _ (omega arith))

  module _ (w : Sweep) (to_in : w.to ≤ WRITTEN_BACK) where
    abbrev words : List ℕ
    words = swept w t.stock (length t.entries) t.domains

    moved_good : {d : Domain} → DomainGood (length t.frames) d → DomainGood (length t.frames) (with_life d w.to)
    moved_good g = search

    good : (r : ℕ) → r < (sizes_in t).records → (view t).used (bit_in t r) ≡ true → DomainGood (length t.frames) ((view t).domain r)
    good r h u = domain_good _ _ (ok.ranged.record' r h (rw (bit_is t r h) at u)).scalars

    domains_after : (r : ℕ) → domain_at words r ≡ swept_domain w ((view t).used (bit_in t r)) ((view t).domain r)
    unfolding swept
    domains_after r = by_lt r (sizes_in t).records
        (λ h. from_same w t.stock (length t.entries) (sizes_in t).records 0 t.domains r (omega arith) (omega arith) (omega arith)
        (λ u. domain_fits (sized base t ok.sizes) _ (moved_good (good r h u))))
        (λ h. from_other w t.stock (length t.entries) (sizes_in t).records 0 t.domains r (λ j a b q. omega arith)
        ∙ unfold choose in rw (beyond r h) refl)

    after_sweep : AfterSweep t (view (swept_tables w t)) w
    unfolding swept_tables swept
    after_sweep = record {
      frames = λ f. refl;
      domains = domains_after;
      controls = λ r i. ap (λ (x : Pfn). x.0) (from_page w t.stock (length t.entries) (sizes_in t).records 0 t.domains r i);
      entries = λ b i. refl;
      uses = λ b. refl;
    }

    -- what a sweep makes of a record in range is in range, and lists as many pages
    swept_good : (b : Bool) {d : Domain} → DomainGood (length t.frames) d
        → DomainGood (length t.frames) (swept_domain w b d) × ((swept_domain w b d).listed ≡ d.listed)
    swept_good b {d} g =
        let P : Domain → Type 0 = λ x. DomainGood (length t.frames) x × (x.listed ≡ d.listed) in
        choose_both P b _ d (λ _. choose_both P _ _ d (λ _. (moved_good g, refl)) (λ _. (g, refl))) (λ _. (g, refl))

    pub keep_sweep : KeptSweep base t w
    keep_sweep =
        let a = after_sweep in
        let q = sweep_lengths w t in
        let same-sizes : sizes_in (swept_tables w t) ≡ sizes_in t = rw (q.frames, q.domains, q.entries) refl in
        record {
          after = a;
          lent = record {
            sizes = rw (q.frames, q.domains, q.stocks, q.entries) ok.sizes;
            spare = unfold swept_tables in ok.spare;
            ranged = rw same-sizes (record {
              frame = λ f h. rw (a.frames f) (ok.ranged.frame f h);
              entry = λ b i h u k. rw (a.entries b i) (ok.ranged.entry b i h (rw (a.uses b) at u) k);
              record' = λ r h u.
                  let was = ok.ranged.record' r h (rw (a.uses _) at u) in
                  let g = swept_good ((view t).used (bit_in t r)) (domain_good _ _ was.scalars) in
                  record {
                    scalars = rw (a.domains r) (good_domain _ _ g.0);
                    pages' = λ i j. rw (a.domains r, a.controls r i, g.1) (was.pages' i j);
                  };
            });
          };
        }
