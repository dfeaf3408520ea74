-- Document 01, "Cases on the edge": those marked *, in one table. A case is a run of calls from a fresh start of the program's sizes, one call
-- more, and what the paper says that it answers, whatever the fill and the lamp.
use Rattle.std.specs.Prelude.{ℕ, ◌≡◌, List, [], ◌∷◌, ◌++◌, replicate}
use Rattle.base_units.specs.declared.address.{Hpa.Hpa, Gpa.Gpa}
use Rattle.book_gauge.specs.{Fill.ratio, declared.Gauge.Gauge}
use Rattle.book_ledger.specs.Tables.{Tables, lent}
use Rattle.base_calls.specs.{Answers.values_of, declared.Call.Call, declared.Values.Values}
use Rattle.call_carry.specs.Carry.{carried}
use Rattle.call_host.specs.Calls.{plan_of, call_of}

abbrev pub hpa : ℕ → Hpa
hpa n = record { 0 = n }

abbrev pub gpa : ℕ → Gpa
gpa n = record { 0 = n }

-- base 1073741824, 1024 frames, 4 records, 12 tables
abbrev pub base : Hpa
base = hpa 1073741824

abbrev pub fresh_tables : Tables
fresh_tables = lent (replicate 1024 0) (replicate 20 0) (replicate 1 0) (replicate 8192 0)

-- the tables after calls, in order
unfoldable pub run : Tables → List Call → Tables
run t [] = t
run t (c ∷ cs) = run (carried t (plan_of base t c)).tables cs

pub record Case : Type 0 where
  pub before : List Call
  pub then : Call
  pub says : Values

abbrev pub Right : Case → Type 0
Right c =
    (g : Gauge) → g.raise ≡ ratio 768 1024 → g.clear ≡ ratio 512 1024
    → values_of (call_of base (run fresh_tables c.before) g c.then).answer ≡ c.says

unfoldable pub AllRight : List Case → Type 0
AllRight [] = Unit
AllRight (c ∷ cs) = Right c × AllRight cs

-- an answer that reads out zeros, and one that reads a page
abbrev pub no : ℕ → Values
no n = record { number = n; kind = 0; owner = hpa 0; level = 0; state = 0; hpa = hpa 0 }

abbrev pub page : ℕ → ℕ → Values
page kind owner = record { number = 0; kind = kind; owner = hpa owner; level = 0; state = 0; hpa = hpa 0 }

abbrev pub case : List Call → Call → Values → Case
case b c v = record { before = b; then = c; says = v }

abbrev pub D : Hpa
D = hpa 1073741824

abbrev pub line_1 : Call
line_1 = Call.Create D 32

abbrev pub line_6 : Call
line_6 = Call.KeyConfig D

abbrev pub line_7 : Call
line_7 = Call.AddCx D (hpa 1073745920)

-- a domain that is initialized, with a page at gpa 0
abbrev pub mapped : List Call
mapped =
    line_1
    ∷ line_6
    ∷ line_7
    ∷ Call.AddCx D (hpa 1073750016)
    ∷ Call.AddCx D (hpa 1073754112)
    ∷ Call.AddCx D (hpa 1073758208)
    ∷ Call.Init D
    ∷ Call.SeptAdd D (gpa 0) 3 (hpa 1073762304)
    ∷ Call.SeptAdd D (gpa 0) 2 (hpa 1073766400)
    ∷ Call.SeptAdd D (gpa 0) 1 (hpa 1073770496)
    ∷ Call.PageAdd D (gpa 0) (hpa 1073774592)
    ∷ []

-- the page blocked at epoch 1; and then the domain at epoch 2
abbrev pub blocked : List Call
blocked = mapped ++ (Call.Block D (gpa 0) 0 ∷ [])

abbrev pub tracked : List Call
tracked = blocked ++ (Call.Track D ∷ [])

-- a runnable domain, with the page blocked at epoch 1
abbrev pub blocked_runnable : List Call
blocked_runnable = mapped ++ (Call.Finalize D ∷ Call.Block D (gpa 0) 0 ∷ [])

-- ---- "Lines 1, 2, 3, 4, 6, 7, 8 and 9 above."
abbrev pub line1 : Case
line1 = case [] line_1 (no 0)

abbrev pub line2 : Case
line2 = case (line_1 ∷ []) (Call.Create (hpa 1073745920) 32) (no 10)

abbrev pub line3 : Case
line3 = case (line_1 ∷ []) (Call.Create D 33) (no 2)

abbrev pub line4 : Case
line4 = case (line_1 ∷ []) (Call.Create (hpa 262144) 33) (no 1)

abbrev pub line6 : Case
line6 = case (line_1 ∷ []) line_6 (no 0)

abbrev pub line7 : Case
line7 = case (line_1 ∷ line_6 ∷ []) line_7 (no 0)

abbrev pub line8 : Case
line8 = case (line_1 ∷ line_6 ∷ line_7 ∷ []) (Call.ReadPage (hpa 1073745920)) (page 2 1073741824)

abbrev pub line9 : Case
line9 = case (line_1 ∷ line_6 ∷ line_7 ∷ []) (Call.Init D) (no 4)

-- ---- "gpa 2097152 at level 1 passes the operand check" (the control pages' 4 comes after it); "2093056 gives 1"; "2^47 gives 1"
abbrev pub gpa_fits1 : Case
gpa_fits1 = case (line_1 ∷ line_6 ∷ line_7 ∷ []) (Call.Block D (gpa 2097152) 1) (no 4)

abbrev pub gpa_unaligned : Case
gpa_unaligned = case (line_1 ∷ line_6 ∷ line_7 ∷ []) (Call.Block D (gpa 2093056) 1) (no 1)

abbrev pub gpa_too_big : Case
gpa_too_big = case (line_1 ∷ line_6 ∷ line_7 ∷ []) (Call.Block D (gpa 140737488355328) 0) (no 1)

-- ---- "Blocked at epoch 1 with the domain at 1: pageremove gives 8; with the domain at 2: accepted." Document 02, request 2: "The marked case
-- answering 8 is now a runnable domain's; an accepted initialized twin joins the table."
abbrev pub not_tracked : Case
not_tracked = case blocked_runnable (Call.PageRemove D (gpa 0)) (no 8)

abbrev pub tracked_now : Case
tracked_now = case (blocked_runnable ++ (Call.Track D ∷ [])) (Call.PageRemove D (gpa 0)) (no 0)

abbrev pub initialized_twin : Case
initialized_twin = case blocked (Call.PageRemove D (gpa 0)) (no 0)

-- the table
unfoldable pub marked : List Case
marked =
    line1
    ∷ line2
    ∷ line3
    ∷ line4
    ∷ line6
    ∷ line7
    ∷ line8
    ∷ line9
    ∷ gpa_fits1
    ∷ gpa_unaligned
    ∷ gpa_too_big
    ∷ not_tracked
    ∷ tracked_now
    ∷ initialized_twin
    ∷ []
