-- Of two values over one denominator the f64 comparisons are those of the numerators.
use Rattle.base_rules.specs.Basics.{◌≡◌, Bool, true, false, not, ◌&&◌, ◌||◌, ℕ, ◌*◌, ◌<◌, ltb, leb, eqb}
use Rattle.base_rules.proofs.Facts.{refl, sym, ap, eq-or-lt_of_le, mul-le-mul_right, le_of_mul-le-mul_right, arith, ⊎_elim, lt-ltb, le-ltb, le-leb, eq-eqb}
use Rattle.base_rules.proofs.Facts.{ne_eqb, leb-true, leb-false}
use lib.{Ieee.Float, Ieee.fin, Ieee.up, Ieee.down, Ieee.lt, Ieee.le, Ieee.Fits.down_pos, Ieee.Exact.HasValue, Ieee.Order.transfer}

-- two tests of which each passes where the other does
pub same_test : (s t : Bool) → (s ≡ true → t ≡ true) → (t ≡ true → s ≡ true) → s ≡ t
same_test true t f g = sym (f refl)
same_test false true f g = g refl
same_test false false f g = refl

pub by_test : (P : Bool → Type 0) (t : Bool) → (t ≡ true → P true) → (t ≡ false → P false) → P t
by_test P true f g = f refl
by_test P false f g = g refl

ltb_is : (x y : ℕ) → ltb x y ≡ not (leb y x)
ltb_is x y = by_test (λ t. ltb x y ≡ not t) (leb y x) (λ e. le-ltb x y (leb-true y x e)) (λ e. lt-ltb x y (leb-false y x e))

-- `le` as Ieee has it, below or equal
le_is : (x y : ℕ) → ltb x y || (eqb x y && true) ≡ leb x y
le_is x y = by_test (λ t. ltb x y || (eqb x y && true) ≡ t) (leb x y)
    (λ e. ⊎_elim (λ (q : x ≡ y). rw (le-ltb x y (omega arith), eq-eqb x y q)) (λ (q : x < y). rw (lt-ltb x y q)) (eq-or-lt_of_le (leb-true x y e)))
    (λ e. let h = leb-false x y e in rw (le-ltb x y (omega arith), ne_eqb x y (omega arith)))

-- m / e is a / c and n / d is b / c: crosswise their order is that of a and b
cross : (m n e d a b c : ℕ) → 0 < c → 0 < e → 0 < d → m * c ≡ a * e → n * c ≡ b * d → leb (m * d) (n * e) ≡ leb a b
cross m n e d a b c C E D p q = same_test _ _
    (λ h. le-leb a b (le_of_mul-le-mul_right (transfer a b c c m n e d E D (sym p) (sym q) (leb-true _ _ h)) C))
    (λ h. le-leb _ _ (transfer m n e d a b c c C C p q (mul-le-mul_right c (leb-true a b h))))

pub values_le : (x y : Float) (a b c : ℕ) → 0 < c → HasValue x false a c → HasValue y false b c → le x y ≡ leb a b
unfolding le
values_le lib.Ieee.nan y a b c C p q = elim p [ ]
values_le (lib.Ieee.inf _) y a b c C p q = elim p [ ]
values_le (fin s m e) lib.Ieee.nan a b c C p q = elim q [ ]
values_le (fin s m e) (lib.Ieee.inf _) a b c C p q = elim q [ ]
values_le (fin s m e) (fin t n d) a b c C p q =
    rw (p.0, q.0, le_is) (cross (m * up e) (n * up d) (down e) (down d) a b c C (down_pos e) (down_pos d) p.1 q.1)

pub values_lt : (x y : Float) (a b c : ℕ) → 0 < c → HasValue x false a c → HasValue y false b c → lt x y ≡ ltb a b
unfolding lt
values_lt lib.Ieee.nan y a b c C p q = elim p [ ]
values_lt (lib.Ieee.inf _) y a b c C p q = elim p [ ]
values_lt (fin s m e) lib.Ieee.nan a b c C p q = elim q [ ]
values_lt (fin s m e) (lib.Ieee.inf _) a b c C p q = elim q [ ]
values_lt (fin s m e) (fin t n d) a b c C p q =
    rw (p.0, q.0) (simp ltb_is (ap not (cross (n * up d) (m * up e) (down d) (down e) b a c C (down_pos d) (down_pos e) q.1 p.1)))
