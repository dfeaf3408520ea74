-- Answer 13's range check, read number by number: where every number in use is in its range, it passes.
use Rattle.base_rules.specs.Basics.{◌≡◌, Bool, true, false, ℕ, zero, suc, ◌+◌, ◌-◌, ◌/◌, ◌<◌, ◌≤◌, eqb, ltb, leb, length, choose, given, all_from}
use Rattle.base_rules.proofs.Facts.{refl, false≢true, arith, eqb-true, eq-eqb, leb-true, le-leb, lt-ltb, both_left, both_right, all_at, ◌↔◌}
use Rattle.base_units.specs.Limits.{between, frames_most, records_most, tables_most, table_entries, control_pages, record_words}
use Rattle.base_units.specs.declared.address.Hpa.{Hpa}
use Rattle.base_units.specs.Limits as limits
use Rattle.book_stock.specs.Bits.{word_bits, spare_clear}
use Rattle.book_ledger.specs.{Codes.FREE, Codes.PENDING_BLOCKED, Tables.Tables}
use Rattle.book_ledger.specs.Sizes.{sizes_of, sizes_ok, tables_of, bit_of, root_of, lengths_ok}
use Rattle.call_plan.specs.Lookup.{bit_in, root_in}
use Rattle.book_range.specs.Range.{frame_limits, frame_ok, all_frames_ok, entry_ok, entries_ok, page_ok, pages_ok, domain_ok, record_ok, table_ok, all_tables_ok, rooted_ok}
use Rattle.book_range.specs.Range.{all_records_ok, lent_ok}
use Rattle.book_ledger.specs.declared.{sizes.Sizes.Sizes, words.Frame.Frame, words.Domain.Domain, words.Entry.Entry}
use Rattle.fact_keeps.specs.Views.{View, view}

-- ---- tests

pub both_of : (t r : Bool) → t ≡ true → r ≡ true → choose t r false ≡ true
unfolding choose
both_of t r e f = rw (e, f) refl

module _ (p : ℕ → Bool) where
  of_from : (k i : ℕ) → ((j : ℕ) → i ≤ j → j < i + k → p j ≡ true) → all_from p i k ≡ true
  unfolding all_from
  of_from zero i h = refl
  of_from (suc k) i h = both_of _ _ (h i (omega arith) (omega arith)) (of_from k (i + 1) (λ j a b. h j (omega arith) (omega arith)))

  pub of_all : (n : ℕ) → ((j : ℕ) → j < n → p j ≡ true) → all_from p 0 n ≡ true
  of_all n h = of_from n 0 (λ j a b. h j (omega arith))

-- what a test says: `simp passed` turns a check into what it says, and `simp passed at e` a check that passed
pub leb_is : (a b : ℕ) → (leb a b ≡ true) ↔ (a ≤ b)
leb_is a b = (leb-true a b, le-leb a b)

pub eqb_is : (a b : ℕ) → (eqb a b ≡ true) ↔ (a ≡ b)
eqb_is a b = (eqb-true a b, eq-eqb a b)

pub both_is : (t r : Bool) → (choose t r false ≡ true) ↔ ((t ≡ true) × (r ≡ true))
both_is t r = (λ e. (both_left t r e, both_right t r e), λ w. both_of t r w.0 w.1)

pub if_is : (u r : Bool) → (choose u r true ≡ true) ↔ (u ≡ true → r ≡ true)
unfolding choose
if_is u r = elim u as (λ b. (choose b r true ≡ true) ↔ (b ≡ true → r ≡ true))
    [ true ↦ ((λ e _. e), λ f. f refl) | false ↦ ((λ _ h. absurd (false≢true h)), λ _. refl) ]

pub all_is : (p : ℕ → Bool) (n : ℕ) → (all_from p 0 n ≡ true) ↔ ((j : ℕ) → j < n → p j ≡ true)
all_is p n = (all_at p n, of_all p n)

pub ruleset passed = (leb_is, eqb_is, both_is, if_is, all_is)

pub between_true : (a n b : ℕ) → between a n b ≡ true → (a ≤ n) × (n ≤ b)
unfolding between
between_true a n b e = (leb-true _ _ (both_left _ _ e), leb-true _ _ (both_right _ _ e))

-- ---- the values

abbrev pub frame_good : Sizes → Frame → Bool
frame_good z f = choose (ltb f.owner.0 (frame_limits z f.kind).owner) (choose (ltb f.number (frame_limits z f.kind).number)
    (choose (ltb f.epoch (frame_limits z f.kind).epoch) (ltb f.size (frame_limits z f.kind).size) false) false) false

abbrev pub entry_good : ℕ → Entry → Bool
entry_good frames e = choose (leb e.state PENDING_BLOCKED) (choose (eqb e.state FREE) (eqb e.frame.0 0) (ltb e.frame.0 frames)) false

abbrev pub page_good : ℕ → ℕ → ℕ → ℕ → Bool
page_good frames listed i n = choose (ltb i listed) (ltb n frames) (eqb n 0)

pub record RecordGood (frames : ℕ) (d : Domain) (pages : ℕ → ℕ) : Type 0 where
  pub scalars : domain_ok frames d ≡ true
  pub pages' : (i : ℕ) → i < control_pages → page_good frames d.listed i (pages i) ≡ true

-- every number that is in use is in its range
pub record Ranged (z : Sizes) (s : View) : Type 0 where
  pub frame : (f : ℕ) → f < z.frames → frame_good z (s.frame f) ≡ true
  pub entry : (b i : ℕ) → b < z.tables + z.records → s.used b ≡ true → i < table_entries → entry_good z.frames (s.entry b i) ≡ true
  pub record' : (r : ℕ) → r < z.records → s.used (z.tables + r) ≡ true → RecordGood z.frames (s.domain r) (s.control r)

-- ---- sizes

abbrev pub sizes_in : Tables → Sizes
sizes_in t = record { frames = length t.frames; records = length t.domains / record_words; tables = tables_of (length t.domains) (length t.entries) }

abbrev pub SizesOk : Hpa → Tables → Type 0
SizesOk base t = sizes_ok base (length t.frames) (length t.domains) (length t.stock) (length t.entries) ≡ true

-- a table or a record's root
abbrev pub IsBlock : Tables → ℕ → Type 0
IsBlock t b = b < (sizes_in t).tables + (sizes_in t).records

pub record Sized (t : Tables) : Type 0 where
  pub frames : length t.frames ≤ frames_most
  pub records : length t.domains / record_words ≤ records_most
  pub tables : tables_of (length t.domains) (length t.entries) ≤ tables_most
  pub blocks : length t.entries / table_entries ≡ tables_of (length t.domains) (length t.entries) + length t.domains / record_words
  pub bits : length t.stock ≡ (length t.entries / table_entries + (word_bits - 1)) / word_bits

pub sized : (base : Hpa) (t : Tables) → SizesOk base t → Sized t
unfolding sizes_ok sizes_of given limits.frames_ok tables_of lengths_ok between
sized base t e = let w = simp passed at e in omega arith

-- a record's in-use bit and its root's block: today the same number
pub bit_is : (t : Tables) (r : ℕ) → r < length t.domains / record_words → bit_in t r ≡ tables_of (length t.domains) (length t.entries) + r
unfolding bit_of tables_of choose
bit_is t r h = rw (lt-ltb r (length t.domains / record_words) h) refl

pub root_is : (t : Tables) (r : ℕ) → r < length t.domains / record_words → root_in t r ≡ tables_of (length t.domains) (length t.entries) + r
unfolding root_of tables_of choose
root_is t r h = rw (lt-ltb r (length t.domains / record_words) h) refl

-- ---- all of it

pub record Lent (base : Hpa) (t : Tables) : Type 0 where
  pub sizes : SizesOk base t
  pub spare : spare_clear t.stock (length t.entries / table_entries) ≡ true
  pub ranged : Ranged (sizes_in t) (view t)

pub of_lent : (base : Hpa) (t : Tables) → Lent base t → lent_ok base t ≡ true
unfolding lent_ok given sizes_of all_frames_ok all_tables_ok table_ok all_records_ok rooted_ok record_ok entries_ok pages_ok
of_lent base t l =
    let entries : (b i : ℕ) → IsBlock t b → (view t).used b ≡ true → i < table_entries → entry_ok (length t.frames) t.entries b i ≡ true =
    λ b i h u j. unfold entry_ok in l.ranged.entry b i h u j in
    simp (both_is, if_is, all_is) (
      l.sizes,
      (
        l.spare,
        (
          (λ f h. unfold frame_ok in l.ranged.frame f h),
          (
            (λ b h u i j. entries b i (omega arith) u j),
            λ r h u.
                let v : (view t).used ((sizes_in t).tables + r) ≡ true = rw (bit_is t r h) at u in
                let g = l.ranged.record' r h v in
                ((g.scalars, λ i j. unfold page_ok in g.pages' i j), λ i j. rw (root_is t r h) (entries ((sizes_in t).tables + r) i (omega arith) v j)),
          ),
        ),
      ),
    )
