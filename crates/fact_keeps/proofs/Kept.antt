-- Answer 13 has nothing to say of tables after an edit inside them whose numbers are in range: once for every edit.
use Rattle.base_rules.specs.Basics.{◌≡◌, Bool, true, false, List, ℕ, ◌+◌, ◌-◌, ◌/◌, ◌%◌, ◌^◌, ◌<◌, eqb, length, get_or, set, choose}
use Rattle.base_rules.proofs.Facts.{refl, false≢true, arith, get_or-set_same, get_or-set_other, eqb-false, ltb-true, lt-ltb, choose_both, by_eq}
use Rattle.base_units.specs.{Limits.table_entries, declared.address.Hpa.Hpa}
use Rattle.book_stock.proofs.Bit.{room}
use Rattle.book_stock.specs.Bits.{word_bits, word_of, bit_set, with_bit, set_use, spare_clear}
use Rattle.book_ledger.specs.{Tables.Tables, Words.entry_from, declared.words.Frame.Frame, declared.words.Entry.Entry}
use Rattle.call_plan.specs.{declared.edit.StockEdit.StockEdit, declared.edit.Edit.Edit, Edits.FrameEdit, Edits.EntryEdit}
use Rattle.call_carry.specs.Carry.{after_use, applied}
use Rattle.fact_keeps.specs.Views.{view}
use Rattle.fact_keeps.proofs.Stores.{FrameIn, frame_kept, frame_set, EntryIn, entry_kept, entry_set, StockIn, stock_kept, stock_table, stock_record}
use Rattle.fact_keeps.proofs.Stores.{stock_given, new_frame, new_domain, new_page, new_entry, new_use, wiped_domain, wiped_page, wiped_entry, Within}
use Rattle.fact_keeps.proofs.Stores.{same_lengths, after}
use Rattle.fact_keeps.proofs.Ranged.{Sized, frame_good, entry_good, RecordGood, sizes_in, Lent}

-- ---- the spare bits

with_below : (w k m : ℕ) (on : Bool) → k < m → w < 2 ^ m → with_bit w k on < 2 ^ m
unfolding with_bit bit_set
with_below w k m on h l =
    choose_both (λ (x : ℕ). x < 2 ^ m) (eqb (w / 2 ^ k % 2) 1) _ _
    (λ e. choose_both (λ (x : ℕ). x < 2 ^ m) on w (w - 2 ^ k) (λ _. l) (λ _. omega arith))
    (λ e. choose_both (λ (x : ℕ). x < 2 ^ m) on (w + 2 ^ k) w (λ _. room m k w h l (omega (arith, eqb-false (w / 2 ^ k % 2) 1 e))) (λ _. l))

use_spare : (ws : List ℕ) (n b : ℕ) (on : Bool) → b < n → b / word_bits < length ws → spare_clear ws n ≡ true → spare_clear (set_use ws b on) n ≡ true
unfolding spare_clear set_use word_of
use_spare ws n b on h l e =
    let was : get_or ws (n / word_bits) 0 < 2 ^ (n % word_bits) = ltb-true _ _ e in
    let w : ℕ = with_bit (get_or ws (b / word_bits) 0) (b % word_bits) on in
    lt-ltb (get_or (set ws (b / word_bits) w) (n / word_bits) 0) _ (by_eq (n / word_bits) (b / word_bits)
    (λ q. rw (q, get_or-set_same ws (b / word_bits) w 0 l) (with_below (get_or ws (b / word_bits) 0) (b % word_bits) (n % word_bits) on (omega arith) (rw q at was)))
    (λ q. rw (get_or-set_other ws (b / word_bits) (n / word_bits) w 0 q) was))

-- a bit that is set where one was cleared was set
pub still_set : (c u : Bool) → choose c false u ≡ true → u ≡ true
unfolding choose
still_set c u = elim c as (λ b. choose b false u ≡ true → u ≡ true) [ true ↦ λ e. absurd (false≢true e) | false ↦ λ e. e ]

module _ (t : Tables) (z : Sized t) where
  spare_after : {se : StockEdit} → StockIn t se → (n : ℕ) → n ≡ length t.entries / table_entries
      → spare_clear t.stock n ≡ true → spare_clear (after_use se t.stock) n ≡ true
  unfolding after_use
  spare_after stock_kept n k e = e
  spare_after (stock_table {b} h) n k e = use_spare t.stock n b true (omega (arith, z.blocks)) (omega (arith, z.bits, z.blocks)) e
  spare_after (stock_record {b} h m) n k e = use_spare t.stock n b true (omega (arith, z.blocks)) (omega (arith, z.bits, z.blocks)) e
  spare_after (stock_given {b} h) n k e = use_spare t.stock n b false (omega (arith, z.blocks)) (omega (arith, z.bits, z.blocks)) e

  -- ---- the values

  frame_right : {fe : FrameEdit} → FrameIn t fe → (f : ℕ)
      → frame_good (sizes_in t) ((view t).frame f) ≡ true → frame_good (sizes_in t) (new_frame fe (view t).frame f) ≡ true
  unfolding new_frame
  frame_right frame_kept f e = e
  frame_right (frame_set {n} {v} _ h) f e = choose_both (λ (x : Frame). frame_good (sizes_in t) x ≡ true) (eqb f n.0) v _ (λ _. h) (λ _. e)

  abbrev Good : Entry → Type 0
  Good e = entry_good (length t.frames) e ≡ true

  module _ (b i : ℕ) where
    entry_right : {ee : EntryEdit} → EntryIn t ee → (g : ℕ → ℕ → Entry) → Good (g b i) → Good (new_entry ee g b i)
    unfolding new_entry
    entry_right entry_kept g e = e
    entry_right (entry_set {v = v} _ h) g e = choose_both Good _ _ (g b i) (λ _. choose_both Good _ v (g b i) (λ _. h) (λ _. e)) (λ _. e)

    -- a block in use after an edit was in use before it, or is wiped
    module _ (was : (view t).used b ≡ true → Good ((view t).entry b i)) where
      taken_right : (c : Bool) → choose c true ((view t).used b) ≡ true → Good (choose c (entry_from 0) ((view t).entry b i))
      unfolding choose
      taken_right c = elim c
          as (λ x. choose x true ((view t).used b) ≡ true → Good (choose x (entry_from 0) ((view t).entry b i)))
          [ true ↦ λ _. refl | false ↦ was ]

      wiped_right : {se : StockEdit} → StockIn t se → new_use se (view t).used b ≡ true → Good (wiped_entry se (view t).entry b i)
      unfolding new_use wiped_entry
      wiped_right stock_kept h = was h
      wiped_right (stock_table {b = k} _) h = taken_right (eqb b k) h
      wiped_right (stock_record {b = k} _ _) h = taken_right (eqb b k) h
      wiped_right (stock_given {b = k} _) h = was (still_set (eqb b k) _ h)

-- what an edit keeps: its parts lie in the tables, and these are in range afterwards
pub record Kept (base : Hpa) (t : Tables) (e : Edit) : Type 0 where
  pub within : Within t e
  pub lent : Lent base (applied e t)

-- every record that is in use after an edit is in range
abbrev pub RecordsGood : Tables → Edit → Type 0
RecordsGood t e = (r : ℕ) → r < (sizes_in t).records → new_use e.stock (view t).used ((sizes_in t).tables + r) ≡ true
    → RecordGood (length t.frames) (new_domain e.domain (wiped_domain e.stock (view t).domain) r)
    (new_page e.page (wiped_page e.stock (view t).control) r)

pub keep : (base : Hpa) (t : Tables) {e : Edit} → Lent base t → Within t e → RecordsGood t e → Kept base t e
keep base t {e} l w records =
    let z = w.sized in
    let q = same_lengths e t in
    let a = after t e w in
    let same-sizes : sizes_in (applied e t) ≡ sizes_in t = rw (q.frames, q.domains, q.entries) refl in
    record {
      within = w;
      lent = record {
        sizes = rw (q.frames, q.domains, q.stocks, q.entries) l.sizes;
        spare = rw q.entries (unfold applied in spare_after t z w.stocks (length t.entries / table_entries) refl l.spare);
        ranged = rw same-sizes (record {
          frame = λ f h. rw (a.frames f) (frame_right t z w.frames f (l.ranged.frame f h));
          entry = λ b i h u k. rw (a.entries b i) (entry_right t z b i w.entries _
              (wiped_right t z b i (λ v. l.ranged.entry b i h v k) w.stocks (rw (a.uses b) at u)));
          record' = λ r h u.
              let g = records r h (rw (a.uses _) at u) in
              record { scalars = rw (a.domains r) g.scalars; pages' = λ i j. rw (a.domains r, a.controls r i) (g.pages' i j) };
        });
      };
    }
