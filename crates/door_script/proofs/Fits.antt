-- Holding a line against a form: a turn of the loop over the form's bytes, and its end.
use Rattle.std.proofs.Common.{Option, Some, None}
use Rattle.std.specs.Bool.{then_some}
use Rattle.std.specs.List.{slice_get}
use Rattle.std.proofs.lemmas.Grind.{common_steps}
use Rattle.base_rules.specs.Basics.{◌≡◌, Bool, true, false, List, [], ◌∷◌, ℕ, ◌+◌, ◌-◌, ◌<◌, ◌≤◌, eqb, length, get_or, take, drop, choose, need, on_option}
use Rattle.base_rules.proofs.Facts.{refl, ◌∙◌, arith, drop_of_length-le, choose_both}
use Rattle.base_numbers.specs.Number.{number_read}
use Rattle.base_numbers.proofs.Lists.{next}
use Rattle.door_script.specs.{Text.tab, Lines.number_mark, Lines.field, Lines.starts, Lines.taken_by, Lines.fits}
use Rattle.door_script.proofs.Marks.{upto_within}

-- no more is taken than there is
Within : List ℕ → Option ℕ → Type 0
Within l None = Unit {0}
Within l (Some n) = n ≤ length l

number_within : (l : List ℕ) (n : Option ℕ) → Within l (on_option n None (λ _. Some (length (field l))))
unfolding on_option Within
number_within l None = tt
number_within l (Some n) = upto_within tab l

start_within : (b : ℕ) (l : List ℕ) → starts b l ≡ true → 0 < length l
unfolding starts
start_within b [] e = let z : ◌≡◌ {A = ℕ} 0 1 = cc in omega arith
start_within b (c ∷ l) e = omega arith

taken_within : (b : ℕ) (l : List ℕ) → Within l (taken_by b l)
unfolding taken_by Within
taken_within b l =
    choose_both (Within l) (eqb b number_mark) _ _ (λ _. number_within l (number_read (field l))) λ _. choose_both (Within l) (starts b l) _ _
    (start_within b l) λ _. tt

-- by the line's first byte, if there is one
pub unstarted : (b : ℕ) (l : List ℕ) {v : Option ℕ} → None ≡ slice_get l 0 → v ≡ None → v ≡ need (starts b l) None (Some 1)
unfolding starts choose
unstarted b [] e q = q
unstarted b (x ∷ l) e q = cc

then_some_is : {A : Type 0} (t : Bool) (x : A) → then_some t x ≡ need t None (Some x)
unfolding choose
then_some_is true x = refl
then_some_is false x = refl

pub started : (b : ℕ) (l : List ℕ) {v : Option ℕ} {c : ℕ} → Some c ≡ slice_get l 0 → v ≡ then_some (eqb c b) 1 → v ≡ need (starts b l) None (Some 1)
unfolding starts
started b [] e q = cc
started b (x ∷ l) {c = c} e q = let s : x ≡ c = cc in rw s (q ∙ then_some_is (eqb c b) 1)

-- what the loop keeps at i: the rest of the form against the rest of the line
pub record Fitting (form line rest : List ℕ) (i : ℕ) : Type 0 where
  pub left : fits form line ≡ fits (drop i form) rest

module _ {form line rest : List ℕ} {i : ℕ} (f : Fitting form line rest i) where
  module _ {r : Option ℕ} (h : i < length form) (t : r ≡ taken_by (get_or form i 0) rest) where
    pub fitting_stop : r ≡ None → false ≡ fits form line
    unfolding fits on_option
    fitting_stop n = rw (f.left, next form i h, ← t, n)

    pub fitting_within : {n : ℕ} → r ≡ Some n → n ≤ length rest
    unfolding Within
    fitting_within {n} e = rw (← t, e) at (taken_within (get_or form i 0) rest)

    pub fitting_more : {n : ℕ} → r ≡ Some n → Fitting form line (take (length rest - n) (drop n rest)) (i + 1)
    unfolding fits on_option
    fitting_more {n} e = let p : take (length rest - n) (drop n rest) ≡ drop n rest = grind (arith, common_steps) in record { left = rw (p, f.left, next form i h, ← t, e) }

  pub fitting_end : length form ≤ i → eqb (length rest) 0 ≡ fits form line
  unfolding fits
  fitting_end h = rw (f.left, drop_of_length-le form h)
