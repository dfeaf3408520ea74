-- An edit whose parts lie in the tables and are in range keeps the range check: once for the parts, on any tables that pass it. A page that is
-- listed and a record that is taken stand apart.
use Rattle.std.specs.Prelude.{Some, None}
use Rattle.base_rules.specs.Basics.{Bool, true, false, ℕ, ◌+◌, ◌%◌, ◌<◌, eqb, length, choose, ◌≡◌}
use Rattle.base_rules.proofs.Facts.{arith, eqb-true, eqb-false, eq-eqb, ne_eqb, lt-ltb, le-ltb, choose_both, refl, sym, ◌∙◌, by_eq, by_lt}
use Rattle.base_units.specs.{Limits.control_pages, declared.address.Hpa.Hpa, declared.address.Pfn.Pfn}
use Rattle.book_ledger.specs.{Tables.Tables, declared.words.Domain.Domain}
use Rattle.call_plan.proofs.Parts.{edit}
use Rattle.call_plan.specs.{declared.edit.StockEdit.StockEdit, Edits.FrameEdit, Edits.DomainEdit, Edits.EntryEdit}
use Rattle.fact_keeps.specs.Views.{view}
use Rattle.fact_keeps.proofs.Stores.{stored_other, new_domain, new_page, new_use, wiped_domain, wiped_page, FrameIn, DomainIn, StockIn, EntryIn, domain_kept}
use Rattle.fact_keeps.proofs.Stores.{domain_set, page_kept, page_set, entry_kept, stock_kept, stock_table, stock_record, stock_given}
use Rattle.fact_keeps.proofs.Ranged.{page_good, RecordGood, sizes_in, Sized, sized, Lent, IsBlock}
use Rattle.fact_keeps.proofs.{Facts.DomainGood, Facts.good_domain, Kept.Kept, Kept.keep, Kept.still_set}

-- ---- the parts of an edit

-- a record's scalars change, and not how many pages are listed
pub record DomainSound (t : Tables) (de : DomainEdit) : Type 0 where
  inside : DomainIn t de
  good : (k : ℕ) {p : ℕ → ℕ} → RecordGood (length t.frames) ((view t).domain k) p → RecordGood (length t.frames) (new_domain de (view t).domain k) p

-- no record is taken
pub record StockSound (t : Tables) (se : StockEdit) : Type 0 where
  inside : StockIn t se
  used : (k : ℕ) → new_use se (view t).used ((sizes_in t).tables + k) ≡ true → (view t).used ((sizes_in t).tables + k) ≡ true
  same : (wiped_domain se (view t).domain ≡ (view t).domain) × (wiped_page se (view t).control ≡ (view t).control)

pub domain_stays : {t : Tables} → DomainSound t None
unfolding new_domain
domain_stays = record { inside = domain_kept; good = λ k g. g }

pub stock_stays : {t : Tables} → StockSound t StockEdit.Keep
unfolding new_use wiped_domain wiped_page
stock_stays = record { inside = stock_kept; used = λ k u. u; same = (refl, refl) }

module _ {t : Tables} where
  pub domain_goes : {r : ℕ} {v : Domain} → r < (sizes_in t).records → DomainGood (length t.frames) v → v.listed ≡ ((view t).domain r).listed
      → DomainSound t (Some (r, v))
  unfolding new_domain
  domain_goes {r} {v} h g l = record {
    inside = domain_set h g;
    good = λ k {p} w. choose_both (λ (x : Domain). RecordGood (length t.frames) x p) (eqb k r) v _
        (λ e. record { scalars = good_domain _ v g; pages' = λ i j. rw (l, ← eqb-true k r e) (w.pages' i j) }) (λ _. w);
  }

  pub stock_takes : {b : ℕ} → b < (sizes_in t).tables → StockSound t (StockEdit.Table b)
  unfolding new_use wiped_domain wiped_page
  stock_takes {b} h =
      let i : IsBlock t b = omega arith in
      record { inside = stock_table i; used = λ k u. sym (stored_other (view t).used b true _ (λ q. omega arith)) ∙ u; same = (refl, refl) }

  pub stock_gives : {b : ℕ} → IsBlock t b → StockSound t (StockEdit.Give b)
  unfolding new_use wiped_domain wiped_page
  stock_gives {b} h = record { inside = stock_given h; used = λ k. still_set (eqb ((sizes_in t).tables + k) b) _; same = (refl, refl) }

-- a record that is another or as it was
record_by : {n : ℕ} (c : Bool) {d v : Domain} {p x : ℕ → ℕ} → (c ≡ true → RecordGood n v x) → (c ≡ false → RecordGood n d p)
    → RecordGood n (choose c v d) (λ i. choose c (x i) (p i))
unfolding choose
record_by {n} c {d} {v} {p} {x} f g = elim c as (λ b. c ≡ b → RecordGood n (choose b v d) (λ i. choose b (x i) (p i))) [ true ↦ f | false ↦ g ] refl

-- a page is listed (addcx): the next of fewer than four
page_listed : (n m l i p f : ℕ) → l ≡ m + 1 → f < n → m < control_pages → i < control_pages → page_good n m i p ≡ true
    → page_good n l i (choose (eqb (i % control_pages) (m % control_pages)) f p) ≡ true
unfolding choose
page_listed n m l i p f q k few h g = rw q (by_eq i m
    (λ e. rw (eq-eqb (i % control_pages) (m % control_pages) (omega arith), lt-ltb i (m + 1) (omega arith), lt-ltb f n k) refl)
    (λ e. rw (ne_eqb (i % control_pages) (m % control_pages) (λ r. e (omega arith))) (by_lt i m
    (λ o. rw (lt-ltb i (m + 1) (omega arith)) (rw (lt-ltb i m o) at g))
    (λ o. rw (le-ltb i (m + 1) (omega arith)) (rw (le-ltb i m o) at g)))))

module _ (base : Hpa) (t : Tables) (ok : Lent base t) {fe : FrameEdit} (fs : FrameIn t fe) where
  z : Sized t
  z = sized base t ok.sizes

  -- an edit of these parts
  pub keep_edit : {de : DomainEdit} {se : StockEdit} {ee : EntryEdit} → DomainSound t de → StockSound t se → EntryIn t ee
      → Kept base t (edit fe None de se ee)
  unfolding new_page
  keep_edit d s e = keep base t ok (record { sized = z; frames = fs; domains = d.inside; pages = page_kept; stocks = s.inside; entries = e })
      (λ k h u. rw (s.same.0, s.same.1) (d.good k (ok.ranged.record' k h (s.used k u))))

  module _ (r : ℕ) (v : Domain) (h : r < (sizes_in t).records) (g : DomainGood (length t.frames) v) where
    -- a record's next page is listed
    pub keep_listed : (m : ℕ) (F : Pfn) → m ≡ ((view t).domain r).listed → m < control_pages → v.listed ≡ m + 1 → F.0 < length t.frames
        → Kept base t (edit fe (Some (r, m, F)) (Some (r, v)) StockEdit.Keep None)
    unfolding new_domain new_page new_use wiped_domain wiped_page
    keep_listed m F m-is few l f =
        keep base t ok (record { sized = z; frames = fs; domains = domain_set h g; pages = page_set h; stocks = stock_kept; entries = entry_kept }) (λ k j u.
        let was = ok.ranged.record' k j u in
        record_by (eqb k r)
        (λ q. record { scalars = good_domain _ v g; pages' = λ i o. page_listed _ m _ i _ F.0 l f few o (rw (m-is, ← eqb-true k r q) (was.pages' i o)) })
        (λ _. was))

    -- a record is taken (create): wiped, with no page listed
    pub keep_taken : (b : ℕ) → b ≡ (sizes_in t).tables + r → v.listed ≡ 0
        → Kept base t (edit fe None (Some (r, v)) (StockEdit.Record b b r) None)
    unfolding new_domain new_page new_use wiped_domain wiped_page choose
    keep_taken b b-is l =
        let s : StockIn t (StockEdit.Record b b r) = stock_record {b = b} (omega arith) h in
        keep base t ok (record { sized = z; frames = fs; domains = domain_set h g; pages = page_kept; stocks = s; entries = entry_kept }) (λ k j u.
        record_by (eqb k r)
        (λ q. record { scalars = good_domain _ v g; pages' = λ i _. rw (l, le-ltb i 0 (omega arith)) refl })
        (λ q. rw q (ok.ranged.record' k j (sym (stored_other (view t).used b true _ (λ x. eqb-false k r q (omega arith))) ∙ u))))
