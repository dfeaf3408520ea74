-- Sums over a row of entries and weights of lists: what the walk's proofs add up.
use Rattle.base_rules.specs.Basics.{◌≡◌, Bool, true, false, List, [], ◌∷◌, ◌++◌, ℕ, zero, suc, ◌+◌, ◌*◌, ◌≤◌, ◌<◌, length}
use Rattle.base_rules.proofs.Facts.{refl, sym, ap, ap₂, ◌∙◌, zero-add, zero-mul, add-mul, le_refl, not-suc-le-zero, add-le-add, arith, by_eq, eq-eqb}
use Rattle.fact_ownership.specs.Owned.{Found, weight, times, same, each, one}

-- two numbers are equal or not; one is below the other or not
pub by_pair : {P : Type 0} (a b c d : ℕ) → ((a ≡ b) × (c ≡ d) → P) → (((a ≡ b) × (c ≡ d) → ⊥) → P) → P
by_pair a b c d f g = by_eq a b (λ e. by_eq c d (λ h. f (e, h)) (λ h. g (λ r. h r.1))) (λ e. g (λ r. e r.0))

unfoldable pub sum : ℕ → (ℕ → ℕ) → ℕ
sum zero f = 0
sum (suc n) f = sum n f + f n

pub sum_const : (n c : ℕ) → sum n (λ i. c) ≡ n * c
unfolding sum
sum_const zero c = sym (zero-mul c)
sum_const (suc n) c = omega (arith, sum_const n c)

pub sum_mono : (n : ℕ) (f g : ℕ → ℕ) → ((i : ℕ) → i < n → f i ≤ g i) → sum n f ≤ sum n g
unfolding sum
sum_mono zero f g h = le_refl 0
sum_mono (suc n) f g h = add-le-add (sum_mono n f g (λ i k. h i (omega arith))) (h n (omega arith))

pub sum_add : (n : ℕ) (f g : ℕ → ℕ) → sum n (λ i. f i + g i) ≡ sum n f + sum n g
unfolding sum
sum_add zero f g = refl
sum_add (suc n) f g = omega (arith, sum_add n f g)

pub term_le_sum : (n : ℕ) (f : ℕ → ℕ) (i : ℕ) → i < n → f i ≤ sum n f
unfolding sum
term_le_sum zero f i h = absurd (not-suc-le-zero h)
term_le_sum (suc n) f i h = by_eq i n (λ e. omega (arith, ap f e)) (λ ne. omega (arith, term_le_sum n f i (omega arith)))

-- If each place balances, so does the whole row.
pub balance : (n : ℕ) (x y r : ℕ → ℕ) (old new : ℕ) → ((i : ℕ) → i < n → x i + r i * old ≡ y i + r i * new) → sum n x + sum n r * old ≡ sum n y + sum n r * new
unfolding sum
balance zero x y r old new h = rw (zero-mul old, zero-mul new) refl
balance (suc n) x y r old new h =
    rw (add-mul (sum n r) (r n) old, add-mul (sum n r) (r n) new)
    (omega (arith, balance n x y r old new (λ i k. h i (omega arith)), h n (omega arith)))

-- ---- weights

pub weight_append : (q : Found → ℕ) (l m : List Found) → weight q (l ++ m) ≡ weight q l + weight q m
unfolding weight
weight_append q [] m = sym (zero-add (weight q m))
weight_append q (x ∷ l) m = omega (arith, weight_append q l m)

pub weight_each : (q : Found → ℕ) (n : ℕ) (g : ℕ → List Found) → weight q (each n g) ≡ sum n (λ i. weight q (g i))
unfolding each sum weight
weight_each q zero g = refl
weight_each q (suc n) g = weight_append q (each n g) (g n) ∙ ap (λ (a : ℕ). a + weight q (g n)) (weight_each q n g)

pub each_cong : (n : ℕ) (g h : ℕ → List Found) → ((i : ℕ) → i < n → g i ≡ h i) → each n g ≡ each n h
unfolding each
each_cong zero g h e = refl
each_cong (suc n) g h e = ap₂ (λ (a b : List Found). a ++ b) (each_cong n g h (λ i k. e i (omega arith))) (e n (omega arith))

pub same_refl : (x : Found) → same x x ≡ true
same_refl x = rw (eq-eqb x.frame x.frame refl, eq-eqb x.type x.type refl) refl

-- a list's length is a weight too
abbrev pub size : List Found → ℕ
size l = weight (λ y. 1) l

pub size_length : (l : List Found) → size l ≡ length l
unfolding weight
size_length [] = refl
size_length (x ∷ l) = omega (arith, size_length l)

-- what holds of all that stands in a list
pub weight_cong : (p q : Found → ℕ) (l : List Found) → ((x : Found) → 1 ≤ times x l → p x ≡ q x) → weight p l ≡ weight q l
unfolding weight
weight_cong p q [] h = refl
weight_cong p q (x ∷ l) h = ap₂ (λ (a b : ℕ). a + b) (h x (omega (arith, ap one (same_refl x)))) (weight_cong p q l (λ y k. h y (omega arith)))

pub weight_mono : (p q : Found → ℕ) (l : List Found) → ((x : Found) → 1 ≤ times x l → p x ≤ q x) → weight p l ≤ weight q l
unfolding weight
weight_mono p q [] h = le_refl 0
weight_mono p q (x ∷ l) h = add-le-add (h x (omega (arith, ap one (same_refl x)))) (weight_mono p q l (λ y k. h y (omega arith)))

pub weight_none : (q : Found → ℕ) (l : List Found) → ((x : Found) → 1 ≤ times x l → q x ≡ 0) → weight q l ≡ 0
unfolding weight
weight_none q [] h = refl
weight_none q (x ∷ l) h = omega (arith, h x (omega (arith, ap one (same_refl x))), weight_none q l (λ y k. h y (omega arith)))

pub one_le : (b : Bool) → one b ≤ 1
one_le true = omega arith
one_le false = omega arith

pub each_nil : (n : ℕ) → each {A = Found} n (λ i. []) ≡ []
unfolding each
each_nil zero = refl
each_nil (suc n) = rw (each_nil n) refl
