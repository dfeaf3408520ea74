-- What the chains `(a..b).all(..)` and `words.iter().all(..)` answer, from the call's clause, the range or the words, and what the closure
-- answers of a number.
use Rattle.std.specs.Prelude.{Option}
use Rattle.std.specs.Slice.Iter.{iter_rest}
use Rattle.std.specs.Fn.{Called}
use Rattle.std.specs.Iterator.{Drains, YieldsThen}
use Rattle.std.specs.List.{FoldsTo, fold, list_all, range_with_len}
use Rattle.std.specs.Option.{MatchOption}
use Rattle.std.proofs.Common.{refl, sym, ◌∙◌, ◌&&◌}
use Rattle.std.proofs.iter.Yields.{fronts, nat_range_steps}
use Rattle.std.specs.declared.ops.Range.{Range}
use Rattle.std.specs.declared.slice.Iter.{Iter}
use Rattle.std.proofs.lemmas.Iterator.{YieldsList-from_slice, YieldsList-from_range}
use Rattle.std.proofs.lemmas.Iterator.Consumers.{fold_from_yields_List}
use Rattle.std.proofs.lemmas.Iterator.Search.{all_from_yields_List}
use denote.Param.Members.{Mut}
use denote.Ref.{Bor}
use Rattle.base_rules.specs.Basics.{◌≡◌, Bool, true, false, List, [], ◌∷◌, ℕ, zero, suc, ◌+◌, ◌-◌, ◌<◌, ◌≤◌, min, length, get_or, take, drop, choose, all_from}
use native.Mathlib.Nat.{sub-zero, add-zero, zero-add}
use lib.ListN.{length-drop}
use lib.Seq.{take-nil}
use Rattle.std.proofs.lemmas.List.{take_min, drop_min}
use native.Mathlib.Omega.{arith}

all_of_range : (p : ℕ → Bool) (n i : ℕ) → list_all p (range_with_len i n) ≡ all_from p i n
unfolding all_from choose
all_of_range p zero i = refl
all_of_range p (suc n) i = elim (p i) as (λ b. (b && list_all p (range_with_len (i + 1) n)) ≡ choose b (all_from p (i + 1) n) false)
    [ true ↦ all_of_range p n (i + 1) | false ↦ refl ]

module _ {F : Type 0} {g : Mut F (ℕ × Unit {0}) Bool} {s u : Range ℕ} {f : F} {r : Bool} (p : ℕ → Bool) where
  pub all_between : (a b : ℕ)
      → (xs : List ℕ) × (o : Option ℕ) × (j : F) × YieldsThen nat_range_steps s xs o u × FoldsTo (λ q x h. Called g q (x, tt) true h) f xs j
      × MatchOption o (r ≡ true) (λ x. (r ≡ false) × ((h : F) × Called g j (x, tt) false h))
      → s ≡ record { start = a; end = b }
      → ((x : ℕ) (b : Bool) (q : F) → Called g f (x, tt) b q → (q ≡ f) × (b ≡ p x))
      → r ≡ all_from p a (b - a)
  all_between a b ran e each = rw (all_from_yields_List p u f r ran (YieldsList-from_range a b (b - a) e refl) each, all_of_range p (b - a) a)

  pub all_below : (n : ℕ)
      → (xs : List ℕ) × (o : Option ℕ) × (j : F) × YieldsThen nat_range_steps s xs o u × FoldsTo (λ q x h. Called g q (x, tt) true h) f xs j
      × MatchOption o (r ≡ true) (λ x. (r ≡ false) × ((h : F) × Called g j (x, tt) false h))
      → s ≡ record { start = 0; end = n }
      → ((x : ℕ) (b : Bool) (q : F) → Called g f (x, tt) b q → (q ≡ f) × (b ≡ p x))
      → r ≡ all_from p 0 n
  all_below n ran e each = rw sub-zero at (all_between 0 n ran e each)

both_of : (a b : Bool) → (a && b) ≡ choose a b false
unfolding choose
both_of true b = refl
both_of false b = refl

module _ (p q : ℕ → Bool) where
  -- a test of the first k of some words, where p reads each by its index, and reads past their end what passes
  all_of_words : (k i : ℕ) (ws : List ℕ) → (length ws < k → q 0 ≡ true) → ((j : ℕ) → j < k → p (i + j) ≡ q (get_or ws j 0))
      → list_all q (take k ws) ≡ all_from p i k
  unfolding all_from
  all_of_words zero i ws z e = refl
  all_of_words (suc k) i [] z e =
      let n : (j : ℕ) → i + 1 + j ≡ i + suc j = λ j. omega arith in
      let rest = all_of_words k (i + 1) [] (λ l. z (omega arith)) (λ j l. rw n (e (suc j) (omega arith))) in
      let first : p i ≡ true = rw (add-zero, z (omega arith)) at (e 0 (omega arith)) in
      rw (first, ← rest, take-nil, ← both_of) refl
  all_of_words (suc k) i (w ∷ ws) z e =
      let n : (j : ℕ) → i + 1 + j ≡ i + suc j = λ j. omega arith in
      let rest = all_of_words k (i + 1) ws (λ l. z (omega arith)) (λ j l. rw n (e (suc j) (omega arith))) in
      let first : p i ≡ q w = rw add-zero at (e 0 (omega arith)) in
      rw (first, ← rest) (both_of (q w) (list_all q (take k ws)))

-- the k words from i on, where the code has cut i and the end to the length: i first to a number that it can count
pub cut_part : {from to : ℕ} (ws : List ℕ) (i k top : ℕ) → length ws ≤ top → from ≡ min (min i top) (length ws) → to ≡ min (from + k) (length ws)
    → take (to - from) (drop from ws) ≡ take k (drop i ws)
cut_part {from} {to} ws i k top h e g =
    let a : from ≡ min i (length ws) = omega arith in
    let n : to - from ≡ min k (length (drop i ws)) = rw length-drop (omega arith) in
    rw (n, a, drop_min) (take_min k (drop i ws))

-- the first k of some words, those that they lack read as 0
module _ {F : Type 0} {g : Mut F (Bor ℕ × Unit {0}) Bool} {s u : Iter ℕ} {f : F} {r : Bool} (p q : ℕ → Bool) where
  pub all_words : (k : ℕ) (ws : List ℕ)
      → (xs : List (Bor ℕ)) × (o : Option (Bor ℕ)) × (j : F) × YieldsThen fronts s xs o u × FoldsTo (λ a x h. Called g a (x, tt) true h) f xs j
      × MatchOption o (r ≡ true) (λ x. (r ≡ false) × ((h : F) × Called g j (x, tt) false h))
      → iter_rest s ≡ take k ws
      → (length ws < k → q 0 ≡ true)
      → ((i : ℕ) → i < k → p i ≡ q (get_or ws i 0))
      → ((x : Bor ℕ) (b : Bool) (a : F) → Called g f (x, tt) b a → (a ≡ f) × (b ≡ q x.now))
      → r ≡ all_from p 0 k
  all_words k ws ran e z same each =
      rw (all_from_yields_List q u f r ran (YieldsList-from_slice (take k ws) e) each) (all_of_words p q k 0 ws z (λ i l. rw zero-add (same i l)))

and_true : (a : Bool) → (a && true) ≡ a
and_true true = refl
and_true false = refl

both_assoc : (a b c : Bool) → ((a && b) && c) ≡ (a && (b && c))
both_assoc true b c = refl
both_assoc false b c = refl

fold_both : (q : ℕ → Bool) (a : Bool) (ws : List ℕ) → fold (λ b w. b && q w) a ws ≡ (a && list_all q ws)
fold_both q a [] = sym (and_true a)
fold_both q a (w ∷ ws) = fold_both q (a && q w) ws ∙ both_assoc a (q w) (list_all q ws)

-- the same of `words.iter().fold(true, |ok, word| ok & ..)`, which looks at each word
module _ {F : Type 0} {g : Mut F (Bool × (Bor ℕ × Unit {0})) Bool} {s : Iter ℕ} {f : F} {r : Bool} (p q : ℕ → Bool) where
  pub fold_words : (k : ℕ) (ws : List ℕ)
      → (xs : List (Bor ℕ)) × (j : F) × Drains fronts s xs × FoldsTo {P = F × Bool} (λ a x b. Called g a.0 (a.1, (x, tt)) b.1 b.0) (f, true) xs (j, r)
      → iter_rest s ≡ take k ws
      → (length ws < k → q 0 ≡ true)
      → ((i : ℕ) → i < k → p i ≡ q (get_or ws i 0))
      → ((a : Bool) (x : Bor ℕ) (b : Bool) (h : F) → Called g f (a, (x, tt)) b h → (h ≡ f) × (b ≡ (a && q x.now)))
      → r ≡ all_from p 0 k
  fold_words k ws ran e z same each =
      rw (fold_from_yields_List g (λ b w. b && q w) true r ran (YieldsList-from_slice (take k ws) e) each, fold_both q true (take k ws))
      (all_of_words p q k 0 ws z (λ i l. rw zero-add (same i l)))
