-- Outside the lent words a reader says zero.
use Rattle.base_rules.specs.Basics.{◌≡◌, List, ℕ, ◌-◌, ◌^◌, ◌≤◌, ◌<◌, min, length, get_or, set}
use Rattle.base_rules.proofs.Facts.{refl, sym, ap, ◌∙◌, arith, by_lt, set_out, List·getD-eq-default}
use Rattle.base_units.specs.declared.address.Pfn.{Pfn}
use Rattle.book_ledger.specs.{Words.frame_from, Tables.frame_at}

pub frame_out : (fs : List ℕ) (n : Pfn) → length fs ≤ n.0 → frame_at fs n ≡ frame_from 0
unfolding frame_at
frame_out fs n h = ap frame_from (List·getD-eq-default {A = ℕ} fs 0 h)

-- a place i of a slice, which the code has cut to a number j that it can count: both are outside, or the same
module _ (xs : List ℕ) (i j : ℕ) (e : j ≡ min i (2 ^ 64 - 1)) (l : length xs < 2 ^ 64) where
  pub cut_get : get_or xs j 0 ≡ get_or xs i 0
  cut_get = by_lt i (2 ^ 64 - 1)
      (λ h. let q : j ≡ i = omega arith in rw q refl)
      (λ h. List·getD-eq-default {A = ℕ} xs 0 {n = j} (omega arith) ∙ sym (List·getD-eq-default {A = ℕ} xs 0 {n = i} (omega arith)))

  pub cut_set : (w : ℕ) → j < length xs → set xs j w ≡ set xs i w
  cut_set w h = let q : j ≡ i = omega arith in rw q refl

  pub cut_out : (w : ℕ) → length xs ≤ j → xs ≡ set xs i w
  cut_out w h = sym (set_out xs i w (omega arith))
