-- Laws of the level table, each by one computed test over its rows, however many there are.
use Rattle.base_rules.specs.Basics.{◌≡◌, Bool, true, false, List, [], ◌∷◌, ℕ, zero, suc, ◌<◌, ltb, get_or, choose}
use Rattle.base_rules.proofs.Facts.{refl, lit<, ltb-true, both_left, both_right}
use Rattle.base_levels.specs.{declared.LevelRow.LevelRow, Level.levels, Level.row_of}

-- every number that g reads off a row is below 64
below : (LevelRow → ℕ) → List LevelRow → Bool
below g [] = true
below g (r ∷ rs) = choose (ltb (g r) 64) (below g rs) false

below_at : (g : LevelRow → ℕ) (z : LevelRow) (rs : List LevelRow) (l : ℕ) → g z < 64 → below g rs ≡ true → g (get_or rs l z) < 64
unfolding below
below_at g z [] l h e = h
below_at g z (r ∷ rs) zero h e = ltb-true _ _ (both_left _ _ e)
below_at g z (r ∷ rs) (suc l) h e = below_at g z rs l h (both_right _ _ e)

pub low_below : (l : ℕ) → (row_of l).low < 64
unfolding row_of below choose
low_below l = below_at (λ (r : LevelRow). r.low) _ levels l (lit< tt) refl

pub shift_below : (l : ℕ) → (row_of l).shift < 64
unfolding row_of below choose
shift_below l = below_at (λ (r : LevelRow). r.shift) _ levels l (lit< tt) refl
