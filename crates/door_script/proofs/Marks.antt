-- The part of a text in front of a mark, and the fields of a line as the library cuts it at its tabs.
use Rattle.std.proofs.Common.{Option, Some, None, MatchOption, cond, Bor, slice_get}
use Rattle.std.specs.Option.{unwrap_or, option_map}
use Rattle.std.specs.List.{AllWithin, HoldsAt, slice_range, slice_split, onto_first}
use Rattle.std.proofs.lemmas.Grind.{common_steps}
use Rattle.std.proofs.lemmas.Option.{unwrap_or-slice_get}
use Rattle.std.proofs.lemmas.Iterator.{index_from_first}
use Rattle.base_rules.specs.Basics.{◌≡◌, Bool, true, false, List, [], ◌∷◌, ℕ, zero, suc, ◌+◌, ◌<◌, ◌≤◌, ◌⊎◌, eqb, length, get_or, take, drop, choose, on_option}
use Rattle.base_rules.proofs.Facts.{refl, ◌∙◌, ap, sym, arith, eq-eqb, ne_eqb, length-take, drop_of_length-le, choose_both}
use Rattle.base_numbers.specs.Number.{number_read}
use Rattle.door_script.specs.{Text.tab, Text.upto, Lines.field_at, Lines.number_in}

pub upto_take : (mark : ℕ) (l : List ℕ) → take (length (upto mark l)) l ≡ upto mark l
unfolding upto
upto_take mark [] = refl
upto_take mark (b ∷ l) =
    choose_both (λ u. take (length u) (b ∷ l) ≡ u) (eqb b mark) [] (b ∷ upto mark l) (λ _. refl) (λ _. ap (λ u. b ∷ u) (upto_take mark l))

pub upto_within : (mark : ℕ) (l : List ℕ) → length (upto mark l) ≤ length l
upto_within mark l = rw (← upto_take mark l, length-take) (omega arith)

upto_hit : (mark b : ℕ) (l : List ℕ) → b ≡ mark → length (upto mark (b ∷ l)) ≡ 0
unfolding upto choose
upto_hit mark b l e = rw (eq-eqb b mark e)

upto_miss : (mark b : ℕ) (l : List ℕ) → (b ≡ mark → ⊥) → length (upto mark (b ∷ l)) ≡ length (upto mark l) + 1
unfolding upto choose
upto_miss mark b l n = rw (ne_eqb b mark n) (omega arith)

no_upto : (mark : ℕ) → length (upto mark []) ≡ 0
unfolding upto
no_upto mark = refl

-- by where the library finds the mark
pub end_found : (mark : ℕ) (l : List ℕ) (r : Option ℕ)
    → MatchOption r (AllWithin (λ b. b ≡ mark → ⊥) l 0 (length l)) (λ i. (i < length l) × HoldsAt (λ b. b ≡ mark) l i × AllWithin (λ b. b ≡ mark → ⊥) l 0 i)
    → unwrap_or r (length l) ≡ length (upto mark l)
end_found mark l r f =
    sym (index_from_first (λ l. length (upto mark l)) (λ b. b ≡ mark) (λ b. b ≡ mark → ⊥) (no_upto mark) (upto_hit mark) (upto_miss mark) l r f)

-- and the part in front of it; for whoever cites it (docs/DECISIONS.md, question 137)
pub upto_found : (mark : ℕ) (l : List ℕ) (r : Option ℕ)
    → MatchOption r (AllWithin (λ b. b ≡ mark → ⊥) l 0 (length l)) (λ i. (i < length l) × HoldsAt (λ b. b ≡ mark) l i × AllWithin (λ b. b ≡ mark → ⊥) l 0 i)
    → take (unwrap_or r (length l)) l ≡ upto mark l
upto_found mark l r f = rw (end_found mark l r f) (upto_take mark l)

-- the part from `from` on, as the library hands it out: nothing of it where that is past the end
pub part_from : (l : List ℕ) (from : ℕ) (r : Option (Bor (List ℕ))) (d : Bor (List ℕ)) {x : Bor (List ℕ)} → x ≡ unwrap_or r d → d.now ≡ []
    → MatchOption r ((length l < from) ⊎ (length l < length l)) (λ p. (from ≤ length l) × (length l ≤ length l) × p.now ≡ slice_range l from (length l)
    × length p.now + from ≡ length l)
    → x.now ≡ drop from l
part_from l from None d e n f = let h : length l ≤ from = omega (arith, f) in rw (e, n, drop_of_length-le l h) refl
part_from l from (Some p) d e n f = let h : slice_range l from (length l) ≡ drop from l = grind (arith, common_steps) in rw (e, f.2, h) refl

abbrev parts : List ℕ → List (List ℕ)
parts l = slice_split (λ b. eqb b tab) l

onto_head : (b : ℕ) (u : List ℕ) (ps : List (List ℕ)) → ps ≡ u ∷ drop 1 ps → onto_first b ps ≡ (b ∷ u) ∷ drop 1 ps
onto_head b u [] e = cc
onto_head b u (p ∷ ps) e = cc

-- a line's parts behind a byte, by whether that is a tab
behind : Bool → ℕ → List ℕ → List (List ℕ)
behind t b l = cond t ([] ∷ parts l) (onto_first b (parts l))

first_by : (t : Bool) (b : ℕ) (l : List ℕ) → parts l ≡ upto tab l ∷ drop 1 (parts l)
    → behind t b l ≡ choose t [] (b ∷ upto tab l) ∷ drop 1 (behind t b l)
unfolding behind choose
first_by true b l e = refl
first_by false b l e = let h = onto_head b (upto tab l) (parts l) e in rw h refl

first_part : (l : List ℕ) → parts l ≡ upto tab l ∷ drop 1 (parts l)
unfolding upto behind
first_part [] = refl
first_part (b ∷ l) = first_by (eqb b tab) b l (first_part l)

other_by : (t : Bool) (k b : ℕ) (l : List ℕ) → get_or (drop 1 (parts l)) k [] ≡ get_or (parts (drop (length (upto tab l) + 1) l)) k []
    → get_or (drop 1 (behind t b l)) k [] ≡ get_or (parts (drop (length (choose t [] (b ∷ upto tab l)) + 1) (b ∷ l))) k []
unfolding behind choose
other_by true k b l e = refl
other_by false k b l e =
    let h = onto_head b (upto tab l) (parts l) (first_part l) in let n : suc (length (upto tab l)) + 1 ≡ suc (length (upto tab l) + 1) = omega arith in rw (h, n) e

other_part : (k : ℕ) (l : List ℕ) → get_or (drop 1 (parts l)) k [] ≡ get_or (parts (drop (length (upto tab l) + 1) l)) k []
unfolding upto behind
other_part zero [] = refl
other_part (suc k) [] = refl
other_part k (b ∷ l) = other_by (eqb b tab) k b l (other_part k l)

part_field : (k : ℕ) (l : List ℕ) → get_or (parts l) k [] ≡ field_at k l
unfolding field_at
part_field zero l = ap (λ ps. get_or ps 0 []) (first_part l)
part_field (suc k) l =
    ap (λ ps. get_or ps (suc k) []) (first_part l) ∙ other_part k l ∙ part_field k (drop (length (upto tab l) + 1) l)

unwrapped : (n : Option ℕ) → unwrap_or n 0 ≡ on_option n 0 (λ m. m)
unfolding on_option
unwrapped None = refl
unwrapped (Some m) = refl

-- by what the library reads of the part that it finds
pub number_found : (l : List ℕ) (k : ℕ) (r : Option (Bor (List ℕ))) (n : Option ℕ) → option_map (λ p. p.now) r ≡ slice_get (parts l) k
    → MatchOption r (n ≡ None) (λ p. n ≡ number_read p.now) → unwrap_or n 0 ≡ number_in l k
unfolding number_in number_read choose on_option
number_found l k None n e f =
    let g : get_or (parts l) k [] ≡ [] = rw (← unwrap_or-slice_get, ← e) in rw (← part_field k l, g, f)
number_found l k (Some p) n e f =
    let g : get_or (parts l) k [] ≡ p.now = rw (← unwrap_or-slice_get, ← e) in rw (← part_field k l, g, ← f) (unwrapped n)
