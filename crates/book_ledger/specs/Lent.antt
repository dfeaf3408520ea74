-- The lent tables as a call is handed them, behind its references.
use Rattle.std.specs.Prelude.{◌≡◌, ℕ, List, length, replicate}
use Rattle.book_ledger.specs.{Tables.Tables, Tables.lent, declared.tables.Lent.Lent, declared.tables.LentMut.LentMut}

abbrev pub tables_in : Lent → Tables
tables_in t = lent t.frames.now t.domains.now t.stock.now t.entries.now

abbrev pub tables_of : LentMut → Tables
tables_of t = lent t.frames.now t.domains.now t.stock.now t.entries.now

abbrev zeros : List ℕ → List ℕ
zeros l = replicate (length l) 0

abbrev pub zeroed : Tables → Tables
zeroed t = lent (zeros t.frames) (zeros t.domains) (zeros t.stock) (zeros t.entries)

-- the same window, and the same memory: what is written to t ends in the slices that s was made of
abbrev pub SameLoans : LentMut → LentMut → Type 0
SameLoans s t =
    (t.base ≡ s.base)
    × (t.frames.ghost_name ≡ s.frames.ghost_name)
    × (t.domains.ghost_name ≡ s.domains.ghost_name)
    × (t.stock.ghost_name ≡ s.stock.ghost_name)
    × (t.entries.ghost_name ≡ s.entries.ghost_name)
