-- Answers 12 and 14, 8 at a frame's epoch above the domain's, and a cachewb on records that no TDR names or that aren't in use, met in cases too. No case from a
-- fresh start meets them: 14 never follows from there, nor such an epoch or record, and 12 only after 2^32 - 2 tracks. So the tables of a run are harmed by one word, as lent tables may be, and the call's own rule is asked
-- (answer 13 comes before it).
use Rattle.std.specs.Prelude.{ℕ, ◌^◌, ◌-◌, ◌≡◌, List, [], ◌∷◌, ◌++◌}
use Rattle.book_gauge.specs.declared.Gauge.{Gauge}
use Rattle.book_ledger.specs.Codes.{NDA, TDR, TDCX, EPT, REG, CONFIGURED, TEARDOWN, UNINITIALIZED, INITIALIZED, RUNNABLE}
use Rattle.book_ledger.specs.{Tables.Tables, Tables.lent, Tables.set_frame, Tables.set_domain, declared.words.Domain.Domain}
use Rattle.base_calls.specs.{Answers.number_of, declared.Call.Call}
use Rattle.call_host.specs.Calls.{rule_of}
use Rattle.fact_cases.specs.Cases.{base, fresh_tables, run, gpa, D, mapped, blocked, tracked}
use Rattle.fact_paper.specs.Numbers.{frame, pending}
use Rattle.fact_paper.specs.Asked.{created, configured, initialized, runnable, flushed, dead, again, shut, records, trees}

-- tables, a call on them, and the number of its answer
pub record OnTables : Type 0 where
  pub tables : Tables
  pub then : Call
  pub says : ℕ

unfoldable pub AllSay : List OnTables → Type 0
AllSay [] = Unit
AllSay (h ∷ hs) = ((g : Gauge) → number_of (rule_of base h.tables g h.then).answer ≡ h.says) × AllSay hs

-- each of these calls on these tables
unfoldable pub each_says : Tables → List Call → ℕ → List OnTables
each_says t [] n = []
each_says t (c ∷ cs) n = record { tables = t; then = c; says = n } ∷ each_says t cs n

-- ---- one word of a run's tables changed: the in-use bits, a frame's type and owner, the first record's op state, children and epoch
abbrev after : List Call → Tables
after cs = run fresh_tables cs

abbrev stock_is : ℕ → Tables → Tables
stock_is w t = lent t.frames t.domains (w ∷ []) t.entries

abbrev frame_is : ℕ → ℕ → ℕ → Tables → Tables
frame_is n kind owner t =
    lent (set_frame t.frames (record { 0 = n }) (record { kind = kind; owner = record { 0 = owner }; number = 0; epoch = 0; size = 0 }))
    t.domains t.stock t.entries

abbrev domain_is : Domain → Tables → Tables
domain_is d t = lent t.frames (set_domain t.domains 0 d) t.stock t.entries

abbrev domain : ℕ → ℕ → ℕ → ℕ → ℕ → Domain
domain life op listed children epoch = record { key = 32; life = life; op = op; listed = listed; children = children; epoch = epoch; width = 0 }

-- ---- "a TDR's record [..] is unused": for every call on D, and reclaim of the TDR
abbrev pub unrecorded : List OnTables
unrecorded = each_says (stock_is 0 (after created)) (records D ++ trees D) 14

-- ---- "a frame followed [..] isn't D's or isn't its entry's type": frame 5 is the EPT below the root, with table 0
abbrev below : List Call
below =
    Call.SeptAdd D (gpa (2 ^ 21)) 1 (frame 9)
    ∷ Call.PageAdd D (gpa 4096) (frame 9)
    ∷ Call.Block D (gpa 0) 0
    ∷ Call.Unblock D (gpa 0) 0
    ∷ Call.PageRemove D (gpa 0)
    ∷ Call.SeptRemove D (gpa 0) 1
    ∷ Call.ReadEntry D (gpa 0) 0
    ∷ []

abbrev pub followed : List OnTables
followed =
    each_says (frame_is 5 REG 0 (after blocked)) below 14
    ++ (each_says (frame_is 5 EPT 1 (after blocked)) below 14
    ++ (each_says (stock_is (2 ^ 12) (after blocked)) below 14
    ++ each_says (frame_is 5 REG 0 (after pending)) (Call.PageAug D (gpa 8192) (frame 10) ∷ []) 14))

-- ---- ".. blocked, unblocked or removed": frame 8 is the page at gpa 0, frame 7 the EPT above it
abbrev pub held : List OnTables
held =
    each_says (frame_is 8 REG 1 (after again)) (Call.Block D (gpa 0) 0 ∷ []) 14
    ++ (each_says (frame_is 8 EPT 0 (after again)) (Call.Block D (gpa 0) 0 ∷ []) 14
    ++ (each_says (frame_is 8 REG 1 (after tracked)) (Call.Unblock D (gpa 0) 0 ∷ Call.PageRemove D (gpa 0) ∷ []) 14
    ++ each_says (frame_is 7 EPT 1 (after shut)) (Call.Unblock D (gpa 0) 1 ∷ Call.SeptRemove D (gpa 0) 1 ∷ []) 14))

-- ---- "or a child count would leave its range": 1024 children and one more, none and one less
abbrev emptied : List Call
emptied = tracked ++ (Call.PageRemove D (gpa 0) ∷ Call.Block D (gpa 0) 1 ∷ Call.Track D ∷ [])

abbrev pub counts : List OnTables
counts =
    each_says (domain_is (domain CONFIGURED UNINITIALIZED 1 1024 1) (after configured)) (Call.AddCx D (frame 9) ∷ []) 14
    ++ (each_says (domain_is (domain CONFIGURED INITIALIZED 4 1024 1) (after blocked)) (
    Call.SeptAdd D (gpa (2 ^ 21)) 1 (frame 9)
    ∷ Call.PageAdd D (gpa 4096) (frame 9)
    ∷ []) 14
    ++ (each_says (domain_is (domain CONFIGURED RUNNABLE 4 1024 1) (after pending)) (Call.PageAug D (gpa 8192) (frame 10) ∷ []) 14
    ++ (each_says (domain_is (domain CONFIGURED INITIALIZED 4 0 2) (after tracked)) (Call.PageRemove D (gpa 0) ∷ []) 14
    ++ (each_says (domain_is (domain CONFIGURED INITIALIZED 4 0 3) (after emptied)) (Call.SeptRemove D (gpa 0) 1 ∷ []) 14
    ++ each_says (domain_is (domain TEARDOWN UNINITIALIZED 1 0 1) (after dead)) (Call.Reclaim (frame 1) ∷ []) 14))))

-- ---- "at reclaim an owner isn't a TDR, a TDR's record or such an EPT's table is unused"
abbrev down : List Call
down = blocked ++ (Call.FlushDone D ∷ Call.CacheWb ∷ Call.KeyFree D ∷ [])

abbrev pub reclaimed : List OnTables
reclaimed =
    each_says (frame_is 1 TDCX 9 (after dead)) (Call.Reclaim (frame 1) ∷ []) 14
    ++ (each_says (stock_is 0 (after dead)) (Call.Reclaim (frame 1) ∷ []) 14
    ++ each_says (stock_is (2 ^ 12) (after down)) (Call.Reclaim (frame 5) ∷ []) 14)

-- ---- 12: "epoch at its limit"
abbrev pub late : List OnTables
late =
    each_says (domain_is (domain CONFIGURED INITIALIZED 4 4 (2 ^ 32 - 1)) (after initialized)) (Call.Track D ∷ []) 12
    ++ each_says (domain_is (domain CONFIGURED RUNNABLE 4 4 (2 ^ 32 - 2)) (after runnable)) (Call.Track D ∷ []) 0

-- ---- 8: "the frame's epoch is below the domain's", so one above it isn't tracked either. The page is blocked at epoch 2, and the record says epoch 1
abbrev ahead : List Call
ahead = mapped ++ (Call.Finalize D ∷ Call.Track D ∷ Call.Block D (gpa 0) 0 ∷ [])

abbrev pub above : List OnTables
above = each_says (domain_is (domain CONFIGURED RUNNABLE 4 8 1) (after ahead)) (Call.Unblock D (gpa 0) 0 ∷ Call.PageRemove D (gpa 0) ∷ []) 8

-- ---- request 5: "every domain" is every record in use. The frame that names D's record is free at the cachewb, or the record isn't in use; then all is put back
abbrev swept : Tables → Tables
swept t = run t (Call.CacheWb ∷ [])

abbrev pub records' : List OnTables
records' =
    each_says (frame_is 0 TDR 0 (swept (frame_is 0 NDA 0 (after flushed)))) (Call.KeyFree D ∷ []) 0
    ++ each_says (stock_is (2 ^ 12) (swept (stock_is 0 (after flushed)))) (Call.KeyFree D ∷ []) 3

unfoldable pub harmed : List OnTables
harmed = unrecorded ++ (followed ++ (held ++ (counts ++ (reclaimed ++ (late ++ (above ++ records'))))))
