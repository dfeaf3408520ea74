-- Trying the rows one by one.
use Rattle.std.proofs.Common.{Option, Some, None, MatchOption, IsSomeAnd, cond, Bor}
use Rattle.std.specs.List.{find}
use Rattle.std.specs.Option.{option_map}
use Rattle.base_rules.specs.Basics.{◌≡◌, Bool, true, false, List, [], ◌∷◌, ℕ, choose}
use Rattle.base_rules.proofs.Facts.{refl}
use Rattle.base_calls.specs.declared.Call.{Call}
use Rattle.door_script.specs.Rows.{Row, rows}
use Rattle.door_script.specs.Lines.{form, fits, made, numbers_of, place, call_at, read_by}
use Rattle.door_script.specs.declared.line.Row.{Row as Written}

-- that the code's rows are the table's
abbrev pub Agree : List Written → List Row → Type 0
Agree [] [] = Unit {0}
Agree (e ∷ es) (r ∷ rs) = (e.form.now ≡ form r) × (call_at (place e.name) ≡ made r) × Agree es rs
Agree es rs = ⊥

abbrev pub fits_row : List ℕ → Written → Bool
fits_row line e = fits e.form.now line

-- the call that the row found makes of the line
abbrev pub made_by : List ℕ → Written → Call
made_by line e = call_at (place e.name) (numbers_of line)

found_by : (t : Bool) (line : List ℕ) (e : Written) (o : Option Written) {z : Option Call} → option_map (made_by line) o ≡ z
    → option_map (made_by line) (cond t (Some e) o) ≡ choose t (Some (made_by line e)) z
unfolding choose
found_by true line e o h = refl
found_by false line e o h = h

found : (line : List ℕ) (es : List Written) (rs : List Row) → Agree es rs → option_map (made_by line) (find (fits_row line) es) ≡ read_by rs line
unfolding read_by
found line [] [] a = refl
found line (e ∷ es) (r ∷ rs) a = rw (← a.0, ← a.1) (found_by (fits_row line e) line e (find (fits_row line) es) (found line es rs a.2))
found line [] (r ∷ rs) a = absurd a
found line (e ∷ es) [] a = absurd a

-- by what the library finds among the code's rows, and what it then makes of the row found
pub row_found : (line : List ℕ) (es : List Written) → Agree es rows → (r : Option (Bor Written)) → option_map (λ e. e.now) r ≡ find (fits_row line) es
    → (z : Option Call) (P : Bor Written → Call → Type 0) → MatchOption r (z ≡ None) (λ e. IsSomeAnd z (P e))
    → ((e : Bor Written) (y : Call) → P e y → y ≡ made_by line e.now) → z ≡ read_by rows line
row_found line es a None f z P m g = rw (← found line es rows a, ← f) m
row_found line es a (Some e) f None P m g = absurd m
row_found line es a (Some e) f (Some y) P m g = rw (← found line es rows a, ← f, g e y m)
