-- a / 2 ^ k in binary64 is exactly that.
use Rattle.base_rules.specs.Basics.{◌≡◌, false, ℕ, ◌+◌, ◌-◌, ◌*◌, ◌^◌, ◌≤◌, ◌<◌, eqb}
use Rattle.base_rules.proofs.Facts.{◌∙◌, le_trans, lt_of_lt_of_le, lt_of_le_of_lt, lt_irrefl, zero-lt-suc, zero-mul, mul-one, mul_comm, mul_assoc}
use Rattle.base_rules.proofs.Facts.{mul_left_comm, mul_right_comm, mul-pos, arith, pow-add, pow_pos, pow_mono, pow-lt, shl_lt, ne_eqb}
use lib.{IntN.pos, Ieee.Float, Ieee.fin, Ieee.binary64, Ieee.up, Ieee.down, Ieee.round, Ieee.of_int, Ieee.div, Ieee.mul, Ieee.Fits.down_pos}
use lib.{Ieee.Exact.HasValue, Ieee.Exact.round_exact, Ieee.Back.round_whole, Ieee.Scale.round_same}
use Rattle.book_gauge.specs.Fill.{ratio}

pub whole_val : (n : ℕ) → n ≤ 2 ^ 53 → HasValue (of_int binary64 (pos n)) false n 1
unfolding of_int
whole_val n h = round_whole binary64 false n h

-- a quotient and a product of exact values are the rounded quotient and product
div_is : (x y : Float) (a b : ℕ) → 0 < b → HasValue x false a 1 → HasValue y false b 1 → div binary64 x y ≡ round binary64 false a b
unfolding div
div_is lib.Ieee.nan y a b B p q = elim p [ ]
div_is (lib.Ieee.inf _) y a b B p q = elim p [ ]
div_is (fin s m e) lib.Ieee.nan a b B p q = elim q [ ]
div_is (fin s m e) (lib.Ieee.inf _) a b B p q = elim q [ ]
div_is (fin s m e) (fin t n d) a b B p q =
    let p' : m * up e ≡ a * down e = rw mul-one at p.1 in let q' : n * up d ≡ b * down d = rw mul-one at q.1 in
    let D : 0 < b * down d = mul-pos B (down_pos d) in
    let z : eqb n 0 ≡ false = ne_eqb n 0 (λ (h : n ≡ 0). lt_irrefl 0 (rw (← q', h, zero-mul) at D)) in
    rw (p.0, q.0, z)
    (round_same binary64 false (m * up e * down d) (n * up d * down e) a b (rw q' (mul-pos D (down_pos e))) B
    (rw (p', q') (simp (mul_assoc, mul_comm, mul_left_comm))))

mul_is : (x y : Float) (a b c : ℕ) → 0 < c → HasValue x false a c → HasValue y false b 1 → mul binary64 x y ≡ round binary64 false (a * b) c
unfolding mul
mul_is lib.Ieee.nan y a b c C p q = elim p [ ]
mul_is (lib.Ieee.inf _) y a b c C p q = elim p [ ]
mul_is (fin s m e) lib.Ieee.nan a b c C p q = elim q [ ]
mul_is (fin s m e) (lib.Ieee.inf _) a b c C p q = elim q [ ]
mul_is (fin s m e) (fin t n d) a b c C p q =
    let q' : n * up d ≡ b * down d = rw mul-one at q.1 in
    rw (p.0, q.0) (round_same binary64 false (m * up e * (n * up d)) (down e * down d) (a * b) c (mul-pos (down_pos e) (down_pos d)) C
    (rw (q', mul_right_comm (m * up e), p.1) (simp (mul_assoc, mul_left_comm))))

module _ (a k : ℕ) (K : k ≤ 52) (A : a ≤ 2 ^ k) where
  top : 2 ^ k ≤ 2 ^ 53
  top = pow_mono {j = 53} (omega arith)

  pub ratio_round : ratio a (2 ^ k) ≡ round binary64 false a (2 ^ k)
  ratio_round = div_is _ _ a (2 ^ k) (pow_pos k) (whole_val a (le_trans A top)) (whole_val (2 ^ k) top)

  pub ratio_val : HasValue (ratio a (2 ^ k)) false a (2 ^ k)
  ratio_val =
      let few : a < 2 ^ 53 = lt_of_le_of_lt A (pow-lt {j = 53} (omega arith)) in let e : 1074 ≡ 1074 - k + k = omega arith in
      let below = lt_of_lt_of_le (shl_lt 53 (1074 - k) few) (pow_mono {j = 1074 + 1024} (omega arith)) in
      rw ratio_round (round_exact binary64 false a (2 ^ k) a (1074 - k) (pow_pos k) few below (rw (mul_assoc, ← pow-add, ← e)))

  -- times 2 ^ k it is the whole number a
  pub ratio_back : mul binary64 (ratio a (2 ^ k)) (of_int binary64 (pos (2 ^ k))) ≡ of_int binary64 (pos a)
  unfolding of_int
  ratio_back =
      mul_is _ _ a (2 ^ k) (2 ^ k) (pow_pos k) ratio_val (whole_val (2 ^ k) top)
      ∙ round_same binary64 false (a * 2 ^ k) (2 ^ k) a 1 (pow_pos k) (zero-lt-suc 0) (mul-one _)
