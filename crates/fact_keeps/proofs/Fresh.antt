-- A fresh start: every number is zero, no block is in use, and all of it is in range.
use Rattle.base_rules.specs.Basics.{◌≡◌, true, false, List, ℕ, ◌+◌, ◌/◌, ◌%◌, ◌^◌, length, get_or, replicate}
use Rattle.base_rules.proofs.Facts.{sym, ap, ◌∙◌, true≢false, length-replicate, get_or-replicate, List·getD-eq-default, pow_pos, lt-ltb, by_lt}
use Rattle.base_units.specs.declared.address.Hpa.{Hpa}
use Rattle.book_stock.specs.Bits.{word_bits, word_of, in_use, spare_clear}
use Rattle.book_stock.proofs.Bit.{clear_of_lt}
use Rattle.book_ledger.specs.{Tables.Tables, Tables.lent, Tables.frame_at, Words.frame_from}
use Rattle.fact_keeps.specs.Views.{frame}
use Rattle.fact_keeps.proofs.{Ranged.SizesOk, Ranged.sizes_in, Ranged.Lent, Frames.freed_good}

abbrev pub zeroes : ℕ → List ℕ
zeroes n = replicate n 0

zero_at : (n i : ℕ) → get_or (zeroes n) i 0 ≡ 0
zero_at n i = by_lt i n (get_or-replicate n i 0 0) (λ h. List·getD-eq-default {A = ℕ} (zeroes n) 0 (rw length-replicate h))

pub zero_frame : (n f : ℕ) → frame_at (zeroes n) (frame f) ≡ frame_from 0
unfolding frame_at
zero_frame n f = ap frame_from (zero_at n f)

pub zero_unused : (n b : ℕ) → in_use (zeroes n) b ≡ false
unfolding in_use word_of
zero_unused n b = clear_of_lt _ (b % word_bits) (rw (zero_at n (b / word_bits)) (pow_pos (b % word_bits)))

zero_spare : (n b : ℕ) → spare_clear (zeroes n) b ≡ true
unfolding spare_clear word_of
zero_spare n b = rw (zero_at n (b / word_bits)) (lt-ltb 0 (2 ^ (b % word_bits)) (pow_pos (b % word_bits)))

abbrev pub zeros : Tables → Tables
zeros t = lent (zeroes (length t.frames)) (zeroes (length t.domains)) (zeroes (length t.stock)) (zeroes (length t.entries))

pub zeros_lent : (base : Hpa) (t : Tables) → SizesOk base t → Lent base (zeros t)
zeros_lent base t e = record {
  sizes = simp length-replicate e;
  spare = zero_spare (length t.stock) _;
  ranged = record {
    frame = λ f _. rw (zero_frame (length t.frames) f) (freed_good (sizes_in (zeros t)));
    entry = λ b i _ u. absurd (true≢false (sym u ∙ zero_unused (length t.stock) b));
    record' = λ r _ u. absurd (true≢false (sym u ∙ zero_unused (length t.stock) ((sizes_in (zeros t)).tables + r)));
  };
}
