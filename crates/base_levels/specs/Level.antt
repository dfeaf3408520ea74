-- Document 01, "Level table": a row for each level, low zero bits and the shift to the entry's index.
use Rattle.std.specs.Prelude.{ℕ, ◌-◌, ◌/◌, ◌%◌, ◌^◌, Bool, false, List, [], ◌∷◌, length, get_or, ltb, eqb}
use Rattle.base_rules.specs.Basics.{need}
use Rattle.base_units.specs.{Limits.between, Limits.gpa_end, Limits.table_entries, declared.address.Gpa.Gpa}
use Rattle.base_levels.specs.declared.LevelRow.{LevelRow}

abbrev row : ℕ → ℕ → LevelRow
row l s = record { low = l; shift = s }

-- "Level 0, 1, 2, 3 needs the low 12, 21, 30, 39 bits of the gpa zero, and its entry index is the 9 bits from there up"
abbrev pub levels : List LevelRow
levels = row 12 12 ∷ row 21 21 ∷ row 30 30 ∷ row 39 39 ∷ []

unfoldable pub row_of : ℕ → LevelRow
row_of level = get_or levels level (row 0 0)

-- the level that a walk begins at: the highest that the table has
abbrev pub top_level : ℕ
top_level = length levels - 1

-- answer 1: a level out of range, for a call that takes levels from `least` on
abbrev pub level_ok : ℕ → ℕ → Bool
level_ok least level = between least level top_level

-- answer 1: "a gpa too big or unaligned for its level"
unfoldable pub gpa_fits : Gpa → ℕ → Bool
gpa_fits gpa level = need (ltb gpa.0 gpa_end) false (eqb (gpa.0 % 2 ^ (row_of level).low) 0)

unfoldable pub index_at : Gpa → ℕ → ℕ
index_at gpa level = gpa.0 / 2 ^ (row_of level).shift % table_entries
