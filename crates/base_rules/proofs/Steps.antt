-- One step down a rule, from the fact that a test left: `search steps` follows a function's tests down its definition.
-- Contracts read `result ≡ rule`, so each lemma concludes `z ≡ choose ..` or `z ≡ given ..`.
use mathlib.Core.Path.{◌≡◌, refl}
use mathlib.Core.Bool.{Bool, true, false, not}
use Prim.Native.Nat.{ℕ, ◌≤◌, ◌<◌}
use native.Mathlib.Omega.{arith}
use native.Mathlib.Decide.{ℕ_discrete, dec_lt}
use lib.Dec.{ltb, leb, eqb}
use borrow.Author.Tests.{lt-ltb, le-ltb, le-leb, lt-leb, eq-eqb, ne_eqb, not-true, not-false}
use Rattle.base_rules.specs.Rule.{choose, given}

pub if_true : {A : Type 0} {t : Bool} {x z : A} (y : A) → t ≡ true → z ≡ x → z ≡ choose t x y
unfolding choose
if_true y e h = rw e h

pub if_false : {A : Type 0} {t : Bool} {y z : A} (x : A) → t ≡ false → z ≡ y → z ≡ choose t x y
unfolding choose
if_false x e h = rw e h

pub if_eq : {A : Type 0} {a b : ℕ} {x z : A} (y : A) → a ≡ b → z ≡ x → z ≡ choose (eqb a b) x y
if_eq {a = a} {b = b} y e h = if_true y (eq-eqb a b e) h

pub if_ne : {A : Type 0} {a b : ℕ} {y z : A} (x : A) → (a ≡ b → ⊥) → z ≡ y → z ≡ choose (eqb a b) x y
if_ne {a = a} {b = b} x e h = if_false x (ne_eqb a b e) h

pub if_lt : {A : Type 0} {a b : ℕ} {x z : A} (y : A) → a < b → z ≡ x → z ≡ choose (ltb a b) x y
if_lt {a = a} {b = b} y e h = if_true y (lt-ltb a b e) h

pub if_nlt : {A : Type 0} {a b : ℕ} {y z : A} (x : A) → b ≤ a → z ≡ y → z ≡ choose (ltb a b) x y
if_nlt {a = a} {b = b} x e h = if_false x (le-ltb a b e) h

pub if_le : {A : Type 0} {a b : ℕ} {x z : A} (y : A) → a ≤ b → z ≡ x → z ≡ choose (leb a b) x y
if_le {a = a} {b = b} y e h = if_true y (le-leb a b e) h

pub if_nle : {A : Type 0} {a b : ℕ} {y z : A} (x : A) → b < a → z ≡ y → z ≡ choose (leb a b) x y
if_nle {a = a} {b = b} x e h = if_false x (lt-leb a b e) h

given_is : {A B : Type 0} (v : A) (k : A → B) → given v k ≡ k v
unfolding given
given_is v k = refl

-- a value that the code has in its place
pub given_here : {A B : Type 0} (v : A) {z : B} (k : A → B) → z ≡ k v → z ≡ given v k
given_here v k g = rw (given_is v k) g

-- a callee's answer r, which its contract gives as v
pub given_by : {A B : Type 0} {r v : A} {z : B} (k : A → B) → r ≡ v → z ≡ k r → z ≡ given v k
given_by {v = v} k e g = rw (given_is v k, ← e) g

-- a callee's bool r, which its contract gives as t, and what the branch on r or on !r left
module _ {A : Type 0} {z : A} {r t : Bool} where
  pub told_true : {x : A} (y : A) → r ≡ t → r ≡ true → z ≡ x → z ≡ choose t x y
  unfolding choose
  told_true y e h k = rw (← e, h) k

  pub told_false : {y : A} (x : A) → r ≡ t → r ≡ false → z ≡ y → z ≡ choose t x y
  unfolding choose
  told_false x e h k = rw (← e, h) k

  pub told_nottrue : {y : A} (x : A) → r ≡ t → not r ≡ true → z ≡ y → z ≡ choose t x y
  unfolding choose
  told_nottrue x e h k = rw (← e, not-true r h) k

  pub told_notfalse : {x : A} (y : A) → r ≡ t → not r ≡ false → z ≡ x → z ≡ choose t x y
  unfolding choose
  told_notfalse y e h k = rw (← e, not-false r h) k

pub ruleset steps =
    (given_by, if_eq, if_ne, if_lt, if_nlt, if_le, if_nle, if_true, if_false, told_true, told_false, told_nottrue, told_notfalse)

-- cases by two numbers
pub by_eq : {P : Type 0} (a b : ℕ) → (a ≡ b → P) → ((a ≡ b → ⊥) → P) → P
by_eq a b f g = elim (ℕ_discrete a b) [ yes e ↦ f e | no e ↦ g e ]

pub by_lt : {P : Type 0} (a b : ℕ) → (a < b → P) → (b ≤ a → P) → P
by_lt a b f g = elim (dec_lt a b) [ yes h ↦ f h | no h ↦ g (omega arith) ]

-- a fact of both ways of a choice
pub choose_both : {A : Type 0} (P : A → Type 0) (t : Bool) (x y : A) → (t ≡ true → P x) → (t ≡ false → P y) → P (choose t x y)
unfolding choose
choose_both P true x y f g = f refl
choose_both P false x y f g = g refl

-- a passed check, and what stands behind it
pub both_left : (t r : Bool) → choose t r false ≡ true → t ≡ true
unfolding choose
both_left true r e = refl
both_left false r e = e

pub both_right : (t r : Bool) → choose t r false ≡ true → r ≡ true
unfolding choose
both_right true r e = e
both_right false r e = cc
