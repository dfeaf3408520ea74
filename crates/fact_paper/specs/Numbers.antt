-- Document 01's numbers a second time, each met in a case: its codes of types and states, the ends of its limits, the bits of a gpa. A number that
-- is wrong in a definition and in its code alike would pass every equation between the two; here it fails.
use Rattle.std.specs.Prelude.{ℕ, ◌+◌, ◌-◌, ◌*◌, ◌^◌, ◌≡◌, Bool, true, false, List, [], ◌∷◌, ◌++◌}
use Rattle.base_units.specs.Limits.{frames_ok, records_ok, tables_ok, epoch_ok, base_ok}
use Rattle.base_units.specs.declared.address.{Hpa.Hpa}
use Rattle.book_gauge.specs.{Fill.ratio, Marks.marks_ok, Update.lamp_after}
use Rattle.book_ledger.specs.Codes.{ASSIGNED, CONFIGURED, BLOCKED_LIFE, TEARDOWN, WRITTEN_BACK, UNINITIALIZED, INITIALIZED, RUNNABLE}
use Rattle.book_ledger.specs.{Tables.frame_at, Tables.domain_at, Tables.page_at, Words.frame_from, Words.domain_from, Words.entry_from}
use Rattle.base_calls.specs.declared.{Call.Call, Values.Values}
use Rattle.fact_cases.specs.Cases.{fresh_tables, run, Case, hpa, gpa, no, page, case, D, line_1, blocked}

-- an entry that is read, and a walk that stopped
abbrev entry : ℕ → ℕ → ℕ → Values
entry level state at = record { number = 0; kind = 0; owner = hpa 0; level = level; state = state; hpa = hpa at }

abbrev pub stopped : ℕ → ℕ → ℕ → Values
stopped n level state = record { number = n; kind = 0; owner = hpa 0; level = level; state = state; hpa = hpa 0 }

abbrev pub frame : ℕ → Hpa
frame n = hpa (2 ^ 30 + 4096 * n)

-- ---- "Keys (HKID): 32 to" 95, and the window of 1024 frames from its base
abbrev pub ends : List Case
ends =
    case [] (Call.Create D 31) (no 1)
    ∷ case [] (Call.Create D 95) (no 0)
    ∷ case [] (Call.Create D 96) (no 1)
    ∷ case [] (Call.Create (frame 1023) 32) (no 0)
    ∷ case [] (Call.Create (frame 1024) 32) (no 1)
    ∷ []

-- ---- types: NDA 0, TDR 1, TDCX 2 (line 8), EPT 3, REG 4
abbrev pub types : List Case
types =
    case [] (Call.ReadPage D) (page 0 0)
    ∷ case (line_1 ∷ []) (Call.ReadPage D) (page 1 0)
    ∷ case blocked (Call.ReadPage (frame 5)) (page 3 (2 ^ 30))
    ∷ case blocked (Call.ReadPage (frame 8)) (page 4 (2 ^ 30))
    ∷ []

-- the domain of `blocked`, runnable, with a page more at gpa 4096, and that blocked
abbrev pub pending : List Call
pending = blocked ++ (Call.Finalize D ∷ Call.PageAug D (gpa 4096) (frame 9) ∷ [])

-- ---- states: FREE 0, NL_MAPPED 1, MAPPED 2, PENDING 3, and blocked 4, 5, 6
abbrev pub states : List Case
states =
    case blocked (Call.ReadEntry D (gpa 4096) 0) (entry 0 0 0)
    ∷ case blocked (Call.ReadEntry D (gpa 0) 1) (entry 1 1 (2 ^ 30 + 4096 * 7))
    ∷ case (blocked ++ (Call.Track D ∷ Call.Unblock D (gpa 0) 0 ∷ [])) (Call.ReadEntry D (gpa 0) 0) (entry 0 2 (2 ^ 30 + 4096 * 8))
    ∷ case pending (Call.ReadEntry D (gpa 4096) 0) (entry 0 3 (2 ^ 30 + 4096 * 9))
    ∷ case (blocked ++ (Call.Block D (gpa 0) 1 ∷ [])) (Call.ReadEntry D (gpa 0) 1) (entry 1 4 (2 ^ 30 + 4096 * 7))
    ∷ case blocked (Call.ReadEntry D (gpa 0) 0) (entry 0 5 (2 ^ 30 + 4096 * 8))
    ∷ case (pending ++ (Call.Block D (gpa 4096) 0 ∷ [])) (Call.ReadEntry D (gpa 4096) 0) (entry 0 6 (2 ^ 30 + 4096 * 9))
    ∷ []

-- ---- the level table: from bit 12 up the entry of level 0, from 21 of level 1, from 30 of level 2, from 39 of level 3
abbrev pub bits : List Case
bits =
    case blocked (Call.ReadEntry D (gpa (2 ^ 12)) 0) (entry 0 0 0)
    ∷ case blocked (Call.ReadEntry D (gpa (2 ^ 20)) 0) (entry 0 0 0)
    ∷ case blocked (Call.ReadEntry D (gpa (2 ^ 21)) 0) (stopped 6 1 0)
    ∷ case blocked (Call.ReadEntry D (gpa (2 ^ 29)) 0) (stopped 6 1 0)
    ∷ case blocked (Call.ReadEntry D (gpa (2 ^ 30)) 0) (stopped 6 2 0)
    ∷ case blocked (Call.ReadEntry D (gpa (2 ^ 38)) 0) (stopped 6 2 0)
    ∷ case blocked (Call.ReadEntry D (gpa (2 ^ 39)) 0) (stopped 6 3 0)
    ∷ case blocked (Call.ReadEntry D (gpa (2 ^ 46)) 0) (stopped 6 3 0)
    ∷ []

unfoldable pub numbered : List Case
numbered = ends ++ (types ++ (states ++ bits))

-- ---- "Sizes, unit first": the last number that fits, and the first that doesn't
pub record Limits : Type 0 where
  pub frames : (frames_ok 512 ≡ true) × ((frames_ok 256 ≡ false) × ((frames_ok 768 ≡ false) × ((frames_ok 16384 ≡ true) × (frames_ok 32768 ≡ false))))
  pub base : (base_ok (hpa (2 ^ 30)) ≡ true) × ((base_ok (hpa (2 ^ 46)) ≡ true) × ((base_ok (hpa 0) ≡ false) × (base_ok (hpa (2 ^ 46 + 2 ^ 30)) ≡ false)))
  pub aligned : base_ok (hpa (2 ^ 30 + 2 ^ 29)) ≡ false
  pub records : (records_ok 1 ≡ true) × ((records_ok 64 ≡ true) × ((records_ok 0 ≡ false) × (records_ok 65 ≡ false)))
  pub tables : (tables_ok 4 ≡ true) × ((tables_ok 256 ≡ true) × ((tables_ok 3 ≡ false) × (tables_ok 257 ≡ false)))
  pub epochs : (epoch_ok 1 ≡ true) × ((epoch_ok 4294967295 ≡ true) × ((epoch_ok 0 ≡ false) × (epoch_ok 4294967296 ≡ false)))

-- ---- "768 of 1024 used lights the lamp; 512 leaves it lit; 511 puts it out": in a window, with the frames at the raise mark and at the clear mark
pub record Lamp (frames raise clear : ℕ) : Type 0 where
  pub marks : marks_ok (ratio raise frames) (ratio clear frames) frames ≡ true
  pub lit : (was : Bool) → lamp_after (ratio raise frames) (ratio clear frames) (ratio raise frames) was ≡ true
  pub stays : (was : Bool) → lamp_after (ratio raise frames) (ratio clear frames) (ratio clear frames) was ≡ was
  pub out : (was : Bool) → lamp_after (ratio raise frames) (ratio clear frames) (ratio (clear - 1) frames) was ≡ false

-- ---- docs/TABLES.md: each field of a lent word at its bits, and the codes that no call reads out
pub record Packed : Type 0 where
  pub frame : frame_from (4 + 2 ^ 3 * 9 + 2 ^ 17 * 5 + 2 ^ 25 * 7 + 2 ^ 57 * 3) ≡ record { kind = 4; owner = record { 0 = 9 }; number = 5; epoch = 7; size = 3 }
  pub domain : domain_from (33 + 2 ^ 7 * 3 + 2 ^ 10 * 2 + 2 ^ 12 * 4 + 2 ^ 15 * 6 + 2 ^ 30 * 5 + 2 ^ 62)
      ≡ record { key = 33; life = 3; op = 2; listed = 4; children = 6; epoch = 5; width = 1 }
  pub entry : entry_from (5 + 2 ^ 3 * 9) ≡ record { state = 5; frame = record { 0 = 9 } }
  pub lives : (ASSIGNED ≡ 0) × ((CONFIGURED ≡ 1) × ((BLOCKED_LIFE ≡ 2) × ((TEARDOWN ≡ 3) × (WRITTEN_BACK ≡ 4))))
  pub ops : (UNINITIALIZED ≡ 0) × ((INITIALIZED ≡ 1) × (RUNNABLE ≡ 2))

-- ---- "the lowest unused number is taken": three tables and the record of `blocked` in use, its record's words, and the frames that it has
pub record Left : Type 0 where
  pub stock : (run fresh_tables blocked).stock ≡ (2 ^ 0 + 2 ^ 1 + 2 ^ 2 + 2 ^ 12) ∷ []
  pub record' : domain_at (run fresh_tables blocked).domains 0 ≡ record { key = 32; life = 1; op = 1; listed = 4; children = 8; epoch = 1; width = 0 }
  pub page : page_at (run fresh_tables blocked).domains 0 3 ≡ record { 0 = 4 }
  pub second : frame_at (run fresh_tables blocked).frames (record { 0 = 6 }) ≡ record { kind = 3; owner = record { 0 = 0 }; number = 1; epoch = 0; size = 0 }
  pub blocked' : frame_at (run fresh_tables blocked).frames (record { 0 = 8 }) ≡ record { kind = 4; owner = record { 0 = 0 }; number = 0; epoch = 1; size = 0 }
