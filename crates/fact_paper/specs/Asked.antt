-- What a check asks, in document 01's words, met in a case: a state that it lets pass, and one that it doesn't, for every call that has the check.
-- A state that is asked for wrongly in a call's definition, in its code and in its row of checks alike fails here, and so does a check left out.
use Rattle.std.specs.Prelude.{ℕ, zero, suc, ◌+◌, ◌*◌, ◌^◌, List, [], ◌∷◌, ◌++◌}
use Rattle.base_units.specs.declared.address.{Hpa.Hpa, Gpa.Gpa}
use Rattle.base_calls.specs.declared.Call.{Call}
use Rattle.fact_cases.specs.Cases.{Case, hpa, gpa, no, case, D, line_1, line_6, line_7, blocked, tracked, blocked_runnable}
use Rattle.fact_paper.specs.Numbers.{frame, stopped, pending}

-- each of some calls in one state, with its answer. (A row that is too short can't hold: no call answers 99.)
unfoldable pub each : List Call → List Call → List ℕ → List Case
each before (c ∷ cs) (n ∷ ns) = case before c (no n) ∷ each before cs ns
each before [] ns = []
each before (c ∷ cs) [] = case before c (no 99) ∷ []

-- all of them with one answer
unfoldable pub every : List Call → List Call → ℕ → List Case
every before [] n = []
every before (c ∷ cs) n = case before c (no n) ∷ every before cs n

-- ---- 2, 3, 4, 5: what is asked of D, by every call on a domain. The states of D on its way: none yet, HKID assigned, keys configured with one control page,
-- with four, initialized, runnable, blocked, blocked and written back (request 5), in teardown
abbrev pub created : List Call
created = line_1 ∷ []

abbrev pub configured : List Call
configured = line_1 ∷ line_6 ∷ line_7 ∷ []

abbrev built : List Call
built = configured ++ (Call.AddCx D (frame 2) ∷ Call.AddCx D (frame 3) ∷ Call.AddCx D (frame 4) ∷ [])

abbrev pub initialized : List Call
initialized = built ++ (Call.Init D ∷ [])

abbrev pub runnable : List Call
runnable = initialized ++ (Call.Finalize D ∷ [])

abbrev pub flushed : List Call
flushed = configured ++ (Call.FlushDone D ∷ [])

abbrev written : List Call
written = flushed ++ (Call.CacheWb ∷ [])

abbrev pub dead : List Call
dead = written ++ (Call.KeyFree D ∷ [])

-- the calls on a domain's record; and those on its tree, with operands that fit
abbrev pub records : Hpa → List Call
records d = Call.KeyConfig d ∷ Call.AddCx d (frame 9) ∷ Call.Init d ∷ Call.Finalize d ∷ Call.Track d ∷ Call.FlushDone d ∷ Call.KeyFree d ∷ Call.Reclaim d ∷ []

abbrev pub trees : Hpa → List Call
trees d =
    Call.SeptAdd d (gpa 0) 3 (frame 9)
    ∷ Call.PageAdd d (gpa 0) (frame 9)
    ∷ Call.PageAug d (gpa 0) (frame 9)
    ∷ Call.Block d (gpa 0) 3
    ∷ Call.Unblock d (gpa 0) 3
    ∷ Call.PageRemove d (gpa 0)
    ∷ Call.SeptRemove d (gpa 0) 3
    ∷ Call.ReadEntry d (gpa 0) 3
    ∷ []

-- a row a state: keyconfig, addcx, init, finalize, track, flushdone, keyfree, reclaim of the TDR
abbrev pub of_records : List Case
of_records =
    each [] (records D) (2 ∷ 2 ∷ 2 ∷ 2 ∷ 2 ∷ 2 ∷ 2 ∷ 2 ∷ [])
    ++ (each created (records D) (0 ∷ 3 ∷ 3 ∷ 3 ∷ 3 ∷ 0 ∷ 3 ∷ 3 ∷ [])
    ++ (each configured (records D) (3 ∷ 0 ∷ 4 ∷ 4 ∷ 4 ∷ 0 ∷ 3 ∷ 3 ∷ [])
    ++ (each built (records D) (3 ∷ 4 ∷ 0 ∷ 5 ∷ 5 ∷ 0 ∷ 3 ∷ 3 ∷ [])
    ++ (each initialized (records D) (3 ∷ 4 ∷ 5 ∷ 0 ∷ 0 ∷ 0 ∷ 3 ∷ 3 ∷ [])
    ++ (each runnable (records D) (3 ∷ 4 ∷ 5 ∷ 5 ∷ 0 ∷ 0 ∷ 3 ∷ 3 ∷ [])
    ++ (each flushed (records D) (3 ∷ 3 ∷ 3 ∷ 3 ∷ 3 ∷ 3 ∷ 3 ∷ 3 ∷ [])
    ++ (each written (records D) (3 ∷ 3 ∷ 3 ∷ 3 ∷ 3 ∷ 3 ∷ 0 ∷ 3 ∷ [])
    ++ each dead (records D) (3 ∷ 3 ∷ 3 ∷ 3 ∷ 3 ∷ 3 ∷ 3 ∷ 9 ∷ []))))))))

-- .. and the calls on its tree: 2, 3, 4 and 5 alike, before any looks at the tree. A control page is no D either
abbrev pub of_trees : List Case
of_trees =
    every [] (trees D) 2
    ++ (every configured (trees (frame 1)) 2
    ++ (each configured (records (frame 1)) (2 ∷ 2 ∷ 2 ∷ 2 ∷ 2 ∷ 2 ∷ 2 ∷ 3 ∷ [])
    ++ (every created (trees D) 3
    ++ (every flushed (trees D) 3
    ++ (every written (trees D) 3
    ++ (every dead (trees D) 3
    ++ (every configured (trees D) 4
    ++ every built (trees D) 5)))))))

-- pageadd wants initialized, pageaug runnable; the others take either
abbrev pub ops : List Case
ops =
    case blocked (Call.PageAug D (gpa 4096) (frame 9)) (no 5)
    ∷ case pending (Call.PageAdd D (gpa 8192) (frame 10)) (no 5)
    ∷ case blocked (Call.SeptAdd D (gpa 2097152) 1 (frame 9)) (no 0)
    ∷ case pending (Call.SeptAdd D (gpa 2097152) 1 (frame 10)) (no 0)
    ∷ case blocked (Call.PageAdd D (gpa 4096) (frame 9)) (no 0)
    ∷ case pending (Call.PageAug D (gpa 8192) (frame 10)) (no 0)
    ∷ []

-- ---- 1: an hpa outside the window or unaligned; a gpa too big or unaligned for its level; a level out of range
abbrev outside : Hpa
outside = hpa 262144

abbrev unaligned : Hpa
unaligned = hpa (2 ^ 30 + 8)

abbrev spots : (Hpa → Gpa → ℕ → Call) → List Call
spots c = c outside (gpa 0) 3 ∷ c unaligned (gpa 0) 3 ∷ c D (gpa (2 ^ 47)) 3 ∷ c D (gpa (2 ^ 38)) 3 ∷ c D (gpa 4096) 1 ∷ c D (gpa 0) 4 ∷ []

abbrev pages : (Hpa → Gpa → Call) → List Call
pages c = c outside (gpa 0) ∷ c D (gpa (2 ^ 47)) ∷ c D (gpa 2048) ∷ []

abbrev pub operands : List Case
operands =
    every [] (records outside) 1
    ++ (every [] (records unaligned) 1
    ++ (every [] (spots Call.Block) 1
    ++ (every [] (spots Call.Unblock) 1
    ++ (every [] (spots Call.ReadEntry) 1
    ++ (every [] (spots Call.SeptRemove) 1
    ++ (every [] (spots (λ d g l. Call.SeptAdd d g l (frame 9))) 1
    ++ (every [] (pages (λ d g. Call.PageAdd d g (frame 9))) 1
    ++ (every [] (pages (λ d g. Call.PageAug d g (frame 9))) 1
    ++ (every [] (pages Call.PageRemove) 1
    ++ every [] (
    Call.Create outside 32
    ∷ Call.AddCx D outside
    ∷ Call.SeptAdd D (gpa 0) 3 outside
    ∷ Call.SeptAdd D (gpa 0) 0 (frame 9)
    ∷ Call.SeptRemove D (gpa 0) 0
    ∷ Call.PageAdd D (gpa 0) outside
    ∷ Call.PageAug D (gpa 0) outside
    ∷ Call.ReadPage outside
    ∷ []) 1)))))))))

-- ---- F's 2; 10: a key is free once its domain is in teardown, and no sooner; 11: no unused record, no unused table, where the last one was taken; 2 and 9: reclaim of a
-- frame wants some use, of a TDR no children
abbrev three : List Call
three = Call.Create (frame 0) 32 ∷ Call.Create (frame 1) 33 ∷ Call.Create (frame 2) 34 ∷ []

-- a table at each of the first n entries of the root
unfoldable pub root_tables : ℕ → List Call
root_tables zero = []
root_tables (suc n) = Call.SeptAdd D (gpa (2 ^ 39 * n)) 3 (frame (9 + n)) ∷ root_tables n

abbrev pub frames : List Case
frames =
    case configured (Call.AddCx D (frame 1)) (no 2)
    ∷ case initialized (Call.SeptAdd D (gpa 0) 3 (frame 1)) (no 2)
    ∷ case initialized (Call.PageAdd D (gpa 0) (frame 1)) (no 2)
    ∷ case runnable (Call.PageAug D (gpa 0) (frame 1)) (no 2)
    ∷ case flushed (Call.Create (frame 9) 32) (no 10)
    ∷ case written (Call.Create (frame 9) 32) (no 10)
    ∷ case dead (Call.Create (frame 9) 32) (no 0)
    ∷ case three (Call.Create (frame 3) 35) (no 0)
    ∷ case (three ++ (Call.Create (frame 3) 35 ∷ [])) (Call.Create (frame 4) 36) (no 11)
    ∷ case (initialized ++ root_tables 11) (Call.SeptAdd D (gpa (2 ^ 39 * 11)) 3 (frame 20)) (no 0)
    ∷ case (initialized ++ root_tables 12) (Call.SeptAdd D (gpa (2 ^ 39 * 12)) 3 (frame 21)) (no 11)
    ∷ case configured (Call.Reclaim (frame 1)) (no 3)
    ∷ case written (Call.Reclaim (frame 1)) (no 3)
    ∷ case dead (Call.Reclaim (frame 1)) (no 0)
    ∷ case (dead ++ (Call.Reclaim (frame 1) ∷ [])) (Call.Reclaim D) (no 0)
    ∷ case dead (Call.Reclaim (frame 2)) (no 2)
    ∷ []

-- ---- 6: no table below the root; 7: a new page wants a FREE entry, block one that isn't blocked, unblock and the removals one that is;
-- 9: septremove wants an empty table
abbrev pub again : List Call
again = tracked ++ (Call.Unblock D (gpa 0) 0 ∷ [])

abbrev covered : List Call
covered = blocked ++ (Call.Block D (gpa 0) 1 ∷ [])

abbrev pub shut : List Call
shut = covered ++ (Call.Track D ∷ [])

abbrev pub entries : List Case
entries =
    case initialized (Call.SeptAdd D (gpa 0) 2 (frame 9)) (stopped 6 3 0)
    ∷ case initialized (Call.PageAdd D (gpa 0) (frame 9)) (stopped 6 3 0)
    ∷ case runnable (Call.PageAug D (gpa 0) (frame 9)) (stopped 6 3 0)
    ∷ case initialized (Call.Block D (gpa 0) 0) (stopped 6 3 0)
    ∷ case initialized (Call.Unblock D (gpa 0) 0) (stopped 6 3 0)
    ∷ case initialized (Call.PageRemove D (gpa 0)) (stopped 6 3 0)
    ∷ case initialized (Call.SeptRemove D (gpa 0) 1) (stopped 6 3 0)
    ∷ case shut (Call.PageRemove D (gpa 0)) (stopped 6 1 4)
    ∷ case again (Call.PageAdd D (gpa 0) (frame 9)) (stopped 7 0 2)
    ∷ case pending (Call.PageAug D (gpa 4096) (frame 10)) (stopped 7 0 3)
    ∷ case again (Call.SeptAdd D (gpa 0) 1 (frame 9)) (stopped 7 1 1)
    ∷ case blocked (Call.Block D (gpa 0) 0) (stopped 7 0 5)
    ∷ case blocked (Call.Block D (gpa 4096) 0) (stopped 7 0 0)
    ∷ case again (Call.Unblock D (gpa 0) 0) (stopped 7 0 2)
    ∷ case again (Call.PageRemove D (gpa 0)) (stopped 7 0 2)
    ∷ case blocked (Call.SeptRemove D (gpa 0) 1) (stopped 7 1 1)
    ∷ case shut (Call.SeptRemove D (gpa 0) 1) (no 9)
    ∷ case (tracked ++ (Call.PageRemove D (gpa 0) ∷ Call.Block D (gpa 0) 1 ∷ Call.Track D ∷ [])) (Call.SeptRemove D (gpa 0) 1) (no 0)
    ∷ []

-- ---- 8: not tracked. Document 02, request 2: nothing is asked of an initialized domain. Of a runnable one it is, and a frame that was blocked before
-- finalize counts as any other, by one epoch below the domain's or by two
abbrev covered_runnable : List Call
covered_runnable = blocked_runnable ++ (Call.Block D (gpa 0) 1 ∷ [])

abbrev finalized : List Call
finalized = blocked ++ (Call.Finalize D ∷ [])

abbrev pub epochs : List Case
epochs =
    case blocked (Call.Unblock D (gpa 0) 0) (no 0)
    ∷ case covered (Call.Unblock D (gpa 0) 1) (no 0)
    ∷ case covered (Call.SeptRemove D (gpa 0) 1) (no 9)
    ∷ case (blocked ++ (Call.PageRemove D (gpa 0) ∷ Call.Block D (gpa 0) 1 ∷ [])) (Call.SeptRemove D (gpa 0) 1) (no 0)
    ∷ case blocked_runnable (Call.Unblock D (gpa 0) 0) (no 8)
    ∷ case covered_runnable (Call.Unblock D (gpa 0) 1) (no 8)
    ∷ case covered_runnable (Call.SeptRemove D (gpa 0) 1) (no 8)
    ∷ case finalized (Call.PageRemove D (gpa 0)) (no 8)
    ∷ case (finalized ++ (Call.Track D ∷ [])) (Call.PageRemove D (gpa 0)) (no 0)
    ∷ case (tracked ++ (Call.Finalize D ∷ Call.Track D ∷ [])) (Call.PageRemove D (gpa 0)) (no 0)
    ∷ []

-- ---- request 5: "every domain in blocked becomes blocked and written back", and no other. E is a second domain
abbrev E : Hpa
E = frame 9

abbrev two : List Call
two = configured ++ (Call.Create E 33 ∷ [])

-- one blocked before the cachewb and one after it; both before it; and the last of four records
abbrev apart : List Call
apart = two ++ (Call.FlushDone D ∷ Call.CacheWb ∷ Call.FlushDone E ∷ [])

abbrev both : List Call
both = two ++ (Call.FlushDone D ∷ Call.FlushDone E ∷ Call.CacheWb ∷ [])

abbrev fourth : List Call
fourth = three ++ (Call.Create (frame 3) 35 ∷ Call.FlushDone (frame 3) ∷ Call.CacheWb ∷ [])

abbrev pub sweeps : List Case
sweeps =
    every [] (Call.CacheWb ∷ []) 0
    ++ (every flushed (Call.CacheWb ∷ []) 0
    ++ (every written (Call.CacheWb ∷ []) 0
    ++ (each apart (Call.KeyFree D ∷ Call.KeyFree E ∷ []) (0 ∷ 3 ∷ [])
    ++ (every (apart ++ (Call.CacheWb ∷ [])) (Call.KeyFree D ∷ Call.KeyFree E ∷ []) 0
    ++ (every both (Call.KeyFree D ∷ Call.KeyFree E ∷ []) 0
    ++ (every fourth (Call.KeyFree (frame 3) ∷ []) 0
    ++ (every (created ++ (Call.CacheWb ∷ [])) (Call.KeyConfig D ∷ Call.FlushDone D ∷ []) 0
    ++ (every (created ++ (Call.CacheWb ∷ Call.FlushDone D ∷ [])) (Call.KeyFree D ∷ []) 3
    ++ (every (initialized ++ (Call.CacheWb ∷ [])) (Call.Finalize D ∷ []) 0
    ++ every (dead ++ (Call.CacheWb ∷ [])) (Call.Reclaim (frame 1) ∷ Call.Create E 32 ∷ []) 0)))))))))

unfoldable pub asked : List Case
asked = of_records ++ (of_trees ++ (ops ++ (operands ++ (frames ++ (entries ++ (epochs ++ sweeps))))))
