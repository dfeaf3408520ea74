-- Document 01, "The script": "One call a line: its name, then for each operand in table order the unit and the number, parted by single tabs."
use Rattle.std.specs.Prelude.{ℕ, zero, suc, ◌+◌, Bool, false, List, [], ◌∷◌, ◌++◌, eqb, leb, length, get_or, drop, Option, Some, None}
use Rattle.base_rules.specs.Basics.{choose, need, on_option}
use Prim.Native.String.{String}
use Rattle.base_calls.specs.declared.Call.{Call}
use Rattle.door_script.specs.{Text.bytes, Text.tab, Text.upto, Rows.Row, Rows.create_row, Rows.rows}
use Rattle.base_numbers.specs.Number.{number_read}
use Rattle.door_script.specs.declared.line.Name.{Name, TheVariants.Create, TheVariants.KeyConfig, TheVariants.AddCx, TheVariants.Init, TheVariants.SeptAdd, TheVariants.PageAdd, TheVariants.Finalize, TheVariants.PageAug, TheVariants.Block, TheVariants.Track, TheVariants.Unblock, TheVariants.PageRemove, TheVariants.SeptRemove, TheVariants.FlushDone, TheVariants.KeyFree, TheVariants.Reclaim, TheVariants.ReadPage, TheVariants.ReadEntry, TheVariants.CacheWb}

-- "#" stands for a number
abbrev pub number_mark : ℕ
number_mark = 35

abbrev operands : List String → List ℕ
operands [] = []
operands (unit ∷ units) = tab ∷ (bytes unit ++ (tab ∷ number_mark ∷ operands units))

-- a row's form as a line of a script
abbrev pub form : Row → List ℕ
form r = bytes r.name ++ operands r.units

abbrev pub field : List ℕ → List ℕ
field l = upto tab l

unfoldable pub starts : ℕ → List ℕ → Bool
starts b [] = false
starts b (c ∷ l) = eqb c b

-- how much of a line a byte of a row stands for: `#` for a field that is a number, any other for itself
unfoldable pub taken_by : ℕ → List ℕ → Option ℕ
taken_by b l =
    choose (eqb b number_mark) (on_option (number_read (field l)) None (λ n. Some (length (field l))))
    (need (starts b l) None (Some 1))

-- whether a line is of a form
unfoldable pub fits : List ℕ → List ℕ → Bool
fits [] l = eqb (length l) 0
fits (b ∷ t) l = on_option (taken_by b l) false (λ n. fits t (drop n l))

-- a line's field, counted from 0
unfoldable pub field_at : ℕ → List ℕ → List ℕ
field_at zero l = field l
field_at (suc k) l = field_at k (drop (length (field l) + 1) l)

unfoldable pub number_in : List ℕ → ℕ → ℕ
number_in l k = on_option (number_read (field_at k l)) 0 (λ n. n)

-- the numbers of a line's operands: its name is field 0, then unit and number take turns, and no call has more than four
unfoldable pub numbers_of : List ℕ → List ℕ
numbers_of l = number_in l 2 ∷ number_in l 4 ∷ number_in l 6 ∷ number_in l 8 ∷ []

abbrev pub made : Row → List ℕ → Call
made r ns = r.call (λ k. get_or ns k 0)

-- the call of a row; a number past the table counts as 0
abbrev pub call_at : ℕ → List ℕ → Call
call_at row ns = made (get_or rows row create_row) ns

-- a call's place in the table
abbrev pub place : Name → ℕ
place Create = 0
place KeyConfig = 1
place AddCx = 2
place Init = 3
place SeptAdd = 4
place PageAdd = 5
place Finalize = 6
place PageAug = 7
place Block = 8
place Track = 9
place Unblock = 10
place PageRemove = 11
place SeptRemove = 12
place FlushDone = 13
place KeyFree = 14
place Reclaim = 15
place ReadPage = 16
place ReadEntry = 17
place CacheWb = 18

-- the first row that the line fits
unfoldable pub read_by : List Row → List ℕ → Option Call
read_by [] l = None
read_by (r ∷ rs) l = choose (fits (form r) l) (Some (made r (numbers_of l))) (read_by rs l)

-- "a line above 120 bytes (LF not counted)"
abbrev pub line_most : ℕ
line_most = 120

-- "An unknown name, a missing or wrong unit, a wrong field count, an empty line, any other byte, or a line above 120 bytes [..] answers 15."
unfoldable pub line_of : List ℕ → Option Call
line_of l = need (leb (length l) line_most) None (read_by rows l)
