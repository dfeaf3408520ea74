-- Answer 13's ranges a second time, as words at their ends: "any stored number or code outside its range (a frame's epoch from 0, a child count up to the
-- frames)", "a place without use holds 0". The sizes are the program's: frames 1024, records 4, tables 12.
use Rattle.std.specs.Prelude.{ℕ, ◌+◌, ◌-◌, ◌*◌, ◌^◌, ◌≡◌, Bool, true, false, not, List, [], ◌∷◌, ◌++◌, replicate}
use Rattle.base_rules.specs.Basics.{need}
use Rattle.book_stock.specs.Bits.{spare_clear}
use Rattle.book_ledger.specs.declared.sizes.Sizes.{Sizes}
use Rattle.book_range.specs.Range.{frame_ok, entry_ok, record_ok, table_ok, rooted_ok}

-- all of some words are in range; none is
unfoldable pub all_in : {A : Type 0} → (A → Bool) → List A → Bool
all_in p [] = true
all_in p (w ∷ ws) = need (p w) false (all_in p ws)

unfoldable pub none_in : {A : Type 0} → (A → Bool) → List A → Bool
none_in p [] = true
none_in p (w ∷ ws) = need (not (p w)) false (none_in p ws)

-- those that are right are in range, of those that are wrong none
abbrev pub Judged : {A : Type 0} → (A → Bool) → List A → List A → Type 0
Judged p right wrong = (all_in p right ≡ true) × (none_in p wrong ≡ true)

-- ---- a frame: its type, owner, number, epoch and size
abbrev program : Sizes
program = record { frames = 1024; records = 4; tables = 12 }

abbrev pub frame_in : Sizes → ℕ → Bool
frame_in z w = frame_ok z (w ∷ []) 0

abbrev pub word : ℕ → ℕ → ℕ → ℕ → ℕ → ℕ
word kind owner number epoch size = kind + 2 ^ 3 * owner + 2 ^ 17 * number + 2 ^ 25 * epoch + 2 ^ 57 * size

abbrev pub right_frames : List ℕ
right_frames =
    word 0 0 0 0 0
    ∷ word 1 0 3 0 0
    ∷ word 2 1023 0 0 0
    ∷ word 3 1023 11 (2 ^ 32 - 1) 0
    ∷ word 3 0 0 0 0
    ∷ word 4 1023 0 (2 ^ 32 - 1) 0
    ∷ []

abbrev pub wrong_frames : List ℕ
wrong_frames =
    (word 0 1 0 0 0 ∷ word 0 0 1 0 0 ∷ word 0 0 0 1 0 ∷ word 0 0 0 0 1 ∷ word 5 0 0 0 0 ∷ [])
    ++ ((word 1 1 0 0 0 ∷ word 1 0 4 0 0 ∷ word 1 0 0 1 0 ∷ [])
    ++ ((word 2 1024 0 0 0 ∷ word 2 0 1 0 0 ∷ word 2 0 0 1 0 ∷ [])
    ++ ((word 3 1024 0 0 0 ∷ word 3 0 12 0 0 ∷ word 3 0 0 0 1 ∷ []) ++ (word 4 1024 0 0 0 ∷ word 4 0 1 0 0 ∷ word 4 0 0 0 1 ∷ []))))

-- ---- an entry: its state and frame
abbrev pub entry_in : Sizes → ℕ → Bool
entry_in z w = entry_ok z.frames (w ∷ []) 0 0

abbrev pub at : ℕ → ℕ → ℕ
at state frame = state + 2 ^ 3 * frame

-- ---- a record: key, lifecycle, op state, listed pages, children, epoch and width; then its control pages
abbrev pub record_in : Sizes → List ℕ → Bool
record_in z ws = record_ok z.frames ws 0

abbrev pub scalars : ℕ → ℕ → ℕ → ℕ → ℕ → ℕ → ℕ → ℕ
scalars key life op listed children epoch width = key + 2 ^ 7 * life + 2 ^ 10 * op + 2 ^ 12 * listed + 2 ^ 15 * children + 2 ^ 30 * epoch + 2 ^ 62 * width

abbrev pub bare : ℕ → List ℕ
bare w = w ∷ 0 ∷ 0 ∷ 0 ∷ 0 ∷ []

abbrev pub right_records : List (List ℕ)
right_records = bare (scalars 32 0 0 0 0 1 0) ∷ (scalars 95 4 2 4 1024 (2 ^ 32 - 1) 0 ∷ 1023 ∷ 0 ∷ 5 ∷ 7 ∷ []) ∷ []

abbrev pub wrong_records : List (List ℕ)
wrong_records =
    bare (scalars 31 0 0 0 0 1 0)
    ∷ bare (scalars 96 0 0 0 0 1 0)
    ∷ bare (scalars 32 5 0 0 0 1 0)
    ∷ bare (scalars 32 0 3 0 0 1 0)
    ∷ bare (scalars 32 0 0 5 0 1 0)
    ∷ bare (scalars 32 0 0 0 1025 1 0)
    ∷ bare (scalars 32 0 0 0 0 0 0)
    ∷ bare (scalars 32 0 0 0 0 1 1)
    ∷ (scalars 32 0 0 3 0 1 0 ∷ 0 ∷ 0 ∷ 0 ∷ 1 ∷ [])
    ∷ (scalars 32 0 0 4 0 1 0 ∷ 0 ∷ 0 ∷ 0 ∷ 1024 ∷ [])
    ∷ []

-- four tables, and behind them the root of record 0, its first entry out of range
abbrev root : List ℕ
root = replicate 2048 0 ++ (7 ∷ replicate 511 0)

pub record Ranges : Type 0 where
  pub frames : Judged (frame_in program) right_frames wrong_frames
  pub entries : Judged (entry_in program) (at 0 0 ∷ at 1 0 ∷ at 6 1023 ∷ []) (at 7 0 ∷ at 0 1 ∷ at 1 1024 ∷ at 6 1024 ∷ [])
  pub records : Judged (record_in program) right_records wrong_records
  -- "answer 13 doesn't look into unused ones": a table's last entry, a record's scalars and its root's first entry
  pub table : (table_ok 1024 (1 ∷ []) (replicate 511 0 ++ (7 ∷ [])) 0 ≡ false) × (table_ok 1024 (0 ∷ []) (7 ∷ []) 0 ≡ true)
  pub root' : (rooted_ok 1024 (bare (scalars 32 0 0 0 0 1 0)) (2 ^ 4 ∷ []) root 0 ≡ false) × (rooted_ok 1024 (bare 0) (0 ∷ []) root 0 ≡ true)
  -- a bit behind the last block's is no block's
  pub spare : (spare_clear (2 ^ 4 ∷ []) 5 ≡ true) × (spare_clear (2 ^ 5 ∷ []) 5 ≡ false)
