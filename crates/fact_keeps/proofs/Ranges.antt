-- Answer 13's range check, read the other way: where it passes, every number in use is in its range.
use Rattle.base_rules.specs.Basics.{◌≡◌, true, ℕ, ◌+◌, ◌-◌, ◌<◌, length, given}
use Rattle.base_rules.proofs.Facts.{arith, by_lt}
use Rattle.base_units.specs.declared.address.Hpa.{Hpa}
use Rattle.book_ledger.specs.{Tables.Tables, Sizes.sizes_of}
use Rattle.book_range.specs.Range.{frame_ok, all_frames_ok, entry_ok, entries_ok, page_ok, pages_ok, record_ok, table_ok, all_tables_ok, rooted_ok, all_records_ok, lent_ok}
use Rattle.fact_keeps.specs.Views.{view}
use Rattle.fact_keeps.proofs.Ranged.{both_is, if_is, all_is, entry_good, sizes_in, bit_is, root_is, Lent}

entry_so : (n : ℕ) (t : Tables) (b i : ℕ) → entry_ok n t.entries b i ≡ true → entry_good n ((view t).entry b i) ≡ true
unfolding entry_ok given
entry_so n t b i e = e

pub lent_of : (base : Hpa) (t : Tables) → lent_ok base t ≡ true → Lent base t
unfolding lent_ok given sizes_of all_frames_ok all_tables_ok table_ok all_records_ok rooted_ok record_ok entries_ok pages_ok
lent_of base t e =
    let w = simp (both_is, if_is, all_is) at e in
    let roots = w.1.1.1.1 in
    record {
      sizes = w.0;
      spare = w.1.0;
      ranged = record {
        frame = λ f h. unfold frame_ok in w.1.1.0 f h;
        entry = λ b i h u j. entry_so (length t.frames) t b i (by_lt b (sizes_in t).tables (λ o. w.1.1.1.0 b o u i j) (λ o.
            let q : (sizes_in t).tables + (b - (sizes_in t).tables) ≡ b = omega arith in
            let k : b - (sizes_in t).tables < (sizes_in t).records = omega arith in
            rw (root_is t _ k, q) at ((roots (b - (sizes_in t).tables) k (rw (bit_is t _ k, q) u)).1 i j)));
        record' = λ r h u.
            let g = (roots r h (rw (bit_is t r h) u)).0 in
            record { scalars = g.0; pages' = λ i j. unfold page_ok in g.1 i j };
      };
    }
