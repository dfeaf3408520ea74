-- Answer 13: "any stored number or code outside its range (a frame's epoch from 0, a child count up to the frames)", and, of
-- "What is written down", "A place without use [..] holds 0; another value there is out of range", "answer 13 doesn't look into
-- unused ones".
use Rattle.std.specs.Prelude.{ℕ, ◌+◌, ◌%◌, Bool, false, List, [], ◌∷◌, length, get_or, eqb, ltb, leb}
use Rattle.base_rules.specs.Basics.{choose, implies, need, given, all_from}
use Rattle.base_units.specs.{Limits.table_entries, Limits.control_pages, Limits.epoch_most, Limits.key_ok, Limits.epoch_ok, declared.address.Hpa.Hpa}
use Rattle.book_stock.specs.Bits.{in_use, spare_clear}
use Rattle.book_ledger.specs.Codes.{NDA, TDR, TDCX, EPT, REG, WRITTEN_BACK, RUNNABLE, FREE, PENDING_BLOCKED}
use Rattle.book_ledger.specs.Tables.{Tables, frame_at, domain_at, page_at, entry_at}
use Rattle.book_ledger.specs.Sizes.{bits_of, bit_of, root_of, sizes_of, sizes_ok}
use Rattle.book_ledger.specs.declared.{sizes.Sizes.Sizes, words.Domain.Domain, words.Entry.Entry, words.Frame.Frame}
use Rattle.book_range.specs.declared.FrameLimits.{FrameLimits}

-- owner, number, epoch and size each stay below this: "owner (the TDR's frame, for types 2 to 4) [..] for EPT its table number; for TDR its
-- domain record number", "only EPT and REG have epochs"; 1 where the type lacks the number, and no number is right for another type
-- (no type has another size than 0)
abbrev pub under : ℕ → ℕ → ℕ → ℕ → FrameLimits
under o n e s = record { owner = o; number = n; epoch = e; size = s }

unfoldable pub frame_limits : Sizes → ℕ → FrameLimits
frame_limits s kind =
    choose (eqb kind NDA) (under 1 1 1 1) (
    choose (eqb kind TDR) (under 1 s.records 1 1) (
    choose (eqb kind TDCX) (under s.frames 1 1 1) (
    choose (eqb kind EPT) (under s.frames s.tables (epoch_most + 1) 1) (
    choose (eqb kind REG) (under s.frames 1 (epoch_most + 1) 1)
    (under 0 0 0 0)))))

-- the same, of each number that a word's type can be
abbrev pub limits_by_type : Sizes → List FrameLimits
limits_by_type s =
    frame_limits s 0 ∷ frame_limits s 1 ∷ frame_limits s 2 ∷ frame_limits s 3 ∷
    frame_limits s 4 ∷ frame_limits s 5 ∷ frame_limits s 6 ∷ frame_limits s 7 ∷ []

abbrev pub fits_under : FrameLimits → Frame → Bool
fits_under l f =
    need (ltb f.owner.0 l.owner) false (
    need (ltb f.number l.number) false (
    need (ltb f.epoch l.epoch) false
    (ltb f.size l.size)))

abbrev pub frame_fits : Sizes → Frame → Bool
frame_fits s f = given (frame_limits s f.kind) λ l. fits_under l f

-- the same, of limits in a row
abbrev pub fits_by_type : List FrameLimits → Frame → Bool
fits_by_type ls f = fits_under (get_or ls (f.kind % 8) (under 0 0 0 0)) f

unfoldable pub frame_ok : Sizes → List ℕ → ℕ → Bool
frame_ok s fs n = given (frame_at fs (record { 0 = n })) λ f. frame_fits s f

unfoldable pub all_frames_ok : Sizes → List ℕ → Bool
all_frames_ok s fs = all_from (frame_ok s fs) 0 (length fs)

-- "and a frame unless FREE"
abbrev pub entry_fits : ℕ → Entry → Bool
entry_fits frames e =
    need (leb e.state PENDING_BLOCKED) false (
    choose (eqb e.state FREE) (eqb e.frame.0 0) (ltb e.frame.0 frames))

unfoldable pub entry_ok : ℕ → List ℕ → ℕ → ℕ → Bool
entry_ok frames es b i = given (entry_at es b i) λ e. entry_fits frames e

unfoldable pub entries_ok : ℕ → List ℕ → ℕ → Bool
entries_ok frames es b = all_from (entry_ok frames es b) 0 table_entries

-- "its control pages and how many are listed (frame 0 may be one)"
unfoldable pub page_ok : ℕ → ℕ → List ℕ → ℕ → ℕ → Bool
page_ok frames listed ds r i =
    given (page_at ds r i) λ n.
    choose (ltb i listed) (ltb n.0 frames) (eqb n.0 0)

unfoldable pub pages_ok : ℕ → ℕ → List ℕ → ℕ → Bool
pages_ok frames listed ds r = all_from (page_ok frames listed ds r) 0 control_pages

unfoldable pub domain_ok : ℕ → Domain → Bool
domain_ok frames d =
    need (key_ok d.key) false (
    need (leb d.life WRITTEN_BACK) false (
    need (leb d.op RUNNABLE) false (
    need (leb d.listed control_pages) false (
    need (leb d.children frames) false (
    need (epoch_ok d.epoch) false
    (eqb d.width 0))))))

unfoldable pub record_ok : ℕ → List ℕ → ℕ → Bool
record_ok frames ds r =
    given (domain_at ds r) λ d.
    need (domain_ok frames d) false
    (pages_ok frames d.listed ds r)

-- "answer 13 doesn't look into unused ones": the entries of each table in use ..
unfoldable pub table_ok : ℕ → List ℕ → List ℕ → ℕ → Bool
table_ok frames st es b =
    implies (in_use st b)
    (entries_ok frames es b)

unfoldable pub all_tables_ok : Sizes → List ℕ → List ℕ → Bool
all_tables_ok s st es = all_from (table_ok s.frames st es) 0 s.tables

-- .. and of each record in use its numbers, and the entries of its root
unfoldable pub rooted_ok : ℕ → List ℕ → List ℕ → List ℕ → ℕ → Bool
rooted_ok frames ds st es r =
    given (bit_of (length ds) (length es) r) λ bit.
    implies (in_use st bit) (
    need (record_ok frames ds r) false (
    given (root_of (length ds) (length es) r) λ root.
    entries_ok frames es root))

unfoldable pub all_records_ok : Sizes → List ℕ → List ℕ → List ℕ → Bool
all_records_ok s ds st es = all_from (rooted_ok s.frames ds st es) 0 s.records

-- all of answer 13 but a lent gauge's marks
unfoldable pub lent_ok : Hpa → Tables → Bool
lent_ok base t =
    need (sizes_ok base (length t.frames) (length t.domains) (length t.stock) (length t.entries)) false (
    given (sizes_of (length t.frames) (length t.domains) (length t.entries)) λ s.
    given (bits_of (length t.domains) (length t.entries)) λ bits.
    need (spare_clear t.stock bits) false (
    need (all_frames_ok s t.frames) false (
    need (all_tables_ok s t.stock t.entries) false
    (all_records_ok s t.domains t.stock t.entries))))
