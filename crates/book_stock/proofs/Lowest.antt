-- Laws of the lowest unused block.
use Rattle.base_rules.specs.Basics.{◌≡◌, true, false, List, ℕ, zero, suc, ◌+◌, ◌-◌, ◌<◌, ◌≤◌}
use Rattle.base_rules.proofs.Facts.{refl, ⊎_elim, eq-or-lt_of_le, arith, choose_both}
use Rattle.std.specs.Prelude.{Option, Some, None}
use Rattle.book_stock.specs.Bits.{in_use, lowest_from, lowest_unused}

-- b is unused, and each block before it from `from` on is in use
pub record IsLowest (ws : List ℕ) (from to b : ℕ) : Type 0 where
  pub since : from ≤ b
  pub below : b < to
  pub unused : in_use ws b ≡ false
  pub before : (j : ℕ) → from ≤ j → j < b → in_use ws j ≡ true

abbrev pub AllInUse : List ℕ → ℕ → ℕ → Type 0
AllInUse ws from to = (j : ℕ) → from ≤ j → j < to → in_use ws j ≡ true

module _ (ws : List ℕ) where
  Right : ℕ → ℕ → Option ℕ → Type 0
  Right from to (Some b) = IsLowest ws from to b
  Right from to None = AllInUse ws from to

  used_too : (from to : ℕ) → in_use ws from ≡ true → AllInUse ws (from + 1) to → AllInUse ws from to
  used_too from to e f j h l = ⊎_elim (λ (q : from ≡ j). rw q at e) (λ (q : from < j). f j (omega arith) l) (eq-or-lt_of_le h)

  one_more_fact : (from to : ℕ) (r : Option ℕ) → in_use ws from ≡ true → Right (from + 1) to r → Right from to r
  unfolding Right
  one_more_fact from to (Some b) e p = record { since = omega arith; below = p.below; unused = p.unused; before = used_too from b e p.before }
  one_more_fact from to None e p = used_too from to e p

  scan_right : (k from to : ℕ) → to - from ≡ k → Right from to (lowest_from ws from k)
  unfolding Right lowest_from
  scan_right zero from to q = λ j h l. absurd (omega arith)
  scan_right (suc k) from to q =
      choose_both (Right from to) (in_use ws from) (lowest_from ws (from + 1) k) (Some from)
      (λ e. one_more_fact from to (lowest_from ws (from + 1) k) e (scan_right k (from + 1) to (omega arith)))
      (λ e. record { since = omega arith; below = omega arith; unused = e; before = λ j h l. absurd (omega arith) })

  -- for callers: what the answer says of the blocks
  pub lowest_found : (from to b : ℕ) → lowest_unused ws from to ≡ Some b → IsLowest ws from to b
  unfolding Right lowest_unused
  lowest_found from to b e = rw e at (scan_right (to - from) from to refl)

  pub lowest_none : (from to : ℕ) → lowest_unused ws from to ≡ None → AllInUse ws from to
  unfolding Right lowest_unused
  lowest_none from to e = rw e at (scan_right (to - from) from to refl)
