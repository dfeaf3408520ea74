-- Request 6: "Our new machine wants 16384 frames, 64 records, 256 tables and keys 32 to 95." The last of each, and what comes behind it.
use Rattle.std.specs.Prelude.{ℕ, zero, suc, ◌+◌, ◌-◌, ◌*◌, ◌^◌, ◌≡◌, ◌<◌, ◌≤◌, true, List, [], ◌∷◌, ◌++◌, replicate}
use Rattle.base_units.specs.Limits.{frames_most, records_most, tables_most, key_most, control_pages, epoch_most}
use Rattle.base_units.specs.declared.address.Hpa.{Hpa}
use Rattle.book_ledger.specs.Codes.{REG, WRITTEN_BACK, RUNNABLE, PENDING_BLOCKED}
use Rattle.book_ledger.specs.Tables.{Tables, lent, frame_at}
use Rattle.book_ledger.specs.Words.{frame_from, frame_word, domain_from, domain_word, entry_from, entry_word}
use Rattle.book_ledger.specs.declared.{sizes.Sizes.Sizes, words.Frame.Frame, words.Domain.Domain, words.Entry.Entry}
use Rattle.book_range.specs.Range.{lent_ok}
use Rattle.base_calls.specs.declared.Call.{Call}
use Rattle.fact_cases.specs.Cases.{base, run, gpa}
use Rattle.fact_paper.specs.{Numbers.frame, Harmed.OnTables, Harmed.each_says}
use Rattle.fact_paper.specs.Ranges.{Judged, frame_in, entry_in, record_in, word, at, scalars, bare}

-- ---- fresh tables: "95 passes, 96 gives 1"; the last frame passes, bytes 4096 more give 1
abbrev pub fresh : Tables
fresh = lent (replicate 16384 0) (replicate 320 0) (replicate 5 0) (replicate 163840 0)

-- the domain at frame 16383 that has key 95
abbrev E : Hpa
E = frame 16383

abbrev pub ends : List OnTables
ends = each_says fresh (Call.Create E 95 ∷ []) 0 ++ each_says fresh (Call.Create (frame 16384) 95 ∷ Call.Create E 96 ∷ []) 1

-- ---- record 63 and table 255 are taken and given back. Records 0 to 62, in teardown, and tables 0 to 254 are in use.
unfoldable pub rows : ℕ → List ℕ
rows zero = []
rows (suc n) = bare (scalars 32 3 0 0 0 1 0) ++ rows n

-- the in-use words, with the bit of table 255 and that of record 63
abbrev stock : ℕ → ℕ → List ℕ
stock table record' =
    let full = 2 ^ 64 - 1 in
    full ∷ full ∷ full ∷ (2 ^ 63 - 1 + 2 ^ 63 * table) ∷ (2 ^ 63 - 1 + 2 ^ 63 * record') ∷ []

-- the words of frames 16378 and 16383, record 63, and the two bits
unfoldable pub crowded : ℕ → ℕ → List ℕ → ℕ → ℕ → Tables
crowded w v record63 table record' =
    lent (replicate 16378 0 ++ (w ∷ 0 ∷ 0 ∷ 0 ∷ 0 ∷ v ∷ [])) (rows 63 ++ record63) (stock table record') (replicate 163840 0)

-- E's TDR with record 63, an EPT of it with table 255, and its record: lifecycle and children as said
abbrev tdr : ℕ
tdr = word 1 0 63 0 0

abbrev ept : ℕ
ept = word 3 16383 255 0 0

abbrev kept : ℕ → ℕ → List ℕ
kept life children = scalars 95 life 1 4 children 1 0 ∷ 16382 ∷ 16381 ∷ 16380 ∷ 16379 ∷ []

abbrev create : Call
create = Call.Create E 95

abbrev septadd : Call
septadd = Call.SeptAdd E (gpa (255 * 2 ^ 39)) 3 (frame 16378)

-- with both bits set none is left
abbrev pub none_left : List OnTables
none_left = each_says (crowded 0 tdr (kept 1 4) 1 1) (septadd ∷ Call.Create (frame 0) 33 ∷ []) 11

abbrev frame_after : Tables → ℕ → Frame
frame_after t n = frame_at t.frames (record { 0 = n })

pub record Taken : Type 0 where
  pub created : frame_after (run (crowded 0 0 (bare 0) 0 0) (create ∷ [])) 16383 ≡ frame_from tdr
  pub record_taken : (run (crowded 0 0 (bare 0) 0 0) (create ∷ [])).stock ≡ stock 0 1
  pub added : frame_after (run (crowded 0 tdr (kept 1 4) 0 1) (septadd ∷ [])) 16378 ≡ frame_from ept
  pub table_taken : (run (crowded 0 tdr (kept 1 4) 0 1) (septadd ∷ [])).stock ≡ stock 1 1
  pub table_back : (run (crowded ept tdr (kept 3 5) 1 1) (Call.Reclaim (frame 16378) ∷ [])).stock ≡ stock 0 1
  pub record_back : (run (crowded 0 tdr (kept 3 0) 0 1) (Call.Reclaim E ∷ [])).stock ≡ stock 0 0

-- ---- request 5: record 63 is written back where it is in use and blocked, and no other record moves
pub record Swept : Type 0 where
  pub last : (run (crowded 0 tdr (kept 2 4) 0 1) (Call.CacheWb ∷ [])).domains ≡ rows 63 ++ kept 4 4
  pub unused : (run (crowded 0 tdr (kept 2 4) 0 0) (Call.CacheWb ∷ [])).domains ≡ rows 63 ++ kept 2 4

-- ---- answer 13: fresh tables are in range, and of the stored numbers the last ones
abbrev sizes : Sizes
sizes = record { frames = 16384; records = 64; tables = 256 }

pub record Ranged : Type 0 where
  pub lent : lent_ok base fresh ≡ true
  pub frames : Judged (frame_in sizes) (tdr ∷ ept ∷ word 2 16383 0 0 0 ∷ word 4 16383 0 (2 ^ 32 - 1) 0 ∷ []) (word 1 0 64 0 0 ∷ [])
  pub entries : Judged (entry_in sizes) (at 1 16383 ∷ at 6 16383 ∷ []) (at 1 16384 ∷ [])
  pub records : Judged (record_in sizes) (kept 1 16384 ∷ []) (kept 1 16385 ∷ bare (scalars 96 0 0 0 0 1 0) ∷ [])

-- ---- a lent word has room for every number up to the limits: what is stored comes back. (A TDR's number is its record; a control page has a whole word.)
pub record Room : Type 0 where
  pub frame : (f : Frame) → f.kind ≤ REG → f.owner.0 < frames_most → f.number < tables_most → f.epoch ≤ epoch_most → f.size ≡ 0
      → frame_from (frame_word f) ≡ f
  pub records : records_most ≤ tables_most
  pub domain : (d : Domain) → d.key ≤ key_most → d.life ≤ WRITTEN_BACK → d.op ≤ RUNNABLE → d.listed ≤ control_pages → d.children ≤ frames_most
      → d.epoch ≤ epoch_most → d.width ≡ 0 → domain_from (domain_word d) ≡ d
  pub entry : (e : Entry) → e.state ≤ PENDING_BLOCKED → e.frame.0 < frames_most → entry_from (entry_word e) ≡ e
