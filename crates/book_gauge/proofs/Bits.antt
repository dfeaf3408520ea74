-- The bits of a / 2 ^ k are `ratio_bits a k`.
use Rattle.base_rules.specs.Basics.{◌≡◌, false, ℕ, zero, suc, ◌+◌, ◌-◌, ◌*◌, ◌/◌, ◌^◌, ◌≤◌, ◌<◌}
use Rattle.base_rules.proofs.Facts.{ap, ◌∙◌, le_of_suc-le-suc, lt_of_le_of_lt, zero-mul, mul_assoc, mul_right_comm, mul-le-mul_right, mul-lt-mul_of_pos_right}
use Rattle.base_rules.proofs.Facts.{mul-div_cancel, add-mul, eq_of_mul-eq-mul_right, arith, pow-add, pow_pos, pow-lt}
use lib.{IntN.ℤ, Ieee.Float, Ieee.fin, Ieee.binary64, Ieee.up, Ieee.down, Ieee.size, Ieee.to_bits, Ieee.Fits.down_pos, Ieee.Exact.HasValue}
use lib.Ieee.Digits.{size-lt, size-le, size_reaches}
use Rattle.book_gauge.specs.Fill.{ratio, ratio_bits, Filled}
use Rattle.book_gauge.proofs.{Value.ratio_val, Power.exponent_lt}

-- the bits of n times the smallest value
bits_of : (m : ℕ) (e : ℤ) (n : ℕ) → m * up e * 2 ^ 1074 ≡ n * down e → to_bits binary64 (fin false m e) ≡ (size n - 53) * 2 ^ 52 + n / 2 ^ (size n - 53)
unfolding to_bits
bits_of m e n p = rw (p, mul-div_cancel n (down_pos e)) (omega arith)

size_of : (a h t : ℕ) → 2 ^ h ≤ a → a < 2 ^ suc h → size (a * 2 ^ t) ≡ suc h + t
size_of a h t lo hi =
    let most : size (a * 2 ^ t) ≤ suc h + t = size-le _ (suc h + t) (rw pow-add (mul-lt-mul_of_pos_right hi (pow_pos t))) in
    let least : h + t < size (a * 2 ^ t) = exponent_lt (h + t) _ (lt_of_le_of_lt (rw pow-add (mul-le-mul_right (2 ^ t) lo)) (size-lt (a * 2 ^ t))) in
    omega arith

-- a above 0, with its highest one bit at h
value_bits : (a h k : ℕ) → k ≤ 52 → 2 ^ h ≤ a → a < 2 ^ suc h → a ≤ 2 ^ k → (x : Float) → HasValue x false a (2 ^ k)
    → to_bits binary64 x ≡ (1022 + h - k) * 2 ^ 52 + (2 ^ 52 + (a - 2 ^ h) * 2 ^ (52 - h))
value_bits a h k K lo hi A lib.Ieee.nan v = elim v [ ]
value_bits a h k K lo hi A (lib.Ieee.inf _) v = elim v [ ]
value_bits a h k K lo hi A (fin s m e) v =
    let small : h ≤ k = le_of_suc-le-suc (exponent_lt h (suc k) (lt_of_le_of_lt lo (lt_of_le_of_lt A (pow-lt (omega arith))))) in
    let dropped : size (a * 2 ^ (1074 - k)) - 53 ≡ 1022 + h - k = rw (size_of a h (1074 - k) lo hi) (omega arith) in
    let parts : 1074 - k ≡ 52 - h + (1022 + h - k) = omega arith in
    let digits : a * 2 ^ (1074 - k) / 2 ^ (1022 + h - k) ≡ a * 2 ^ (52 - h) = rw (parts, pow-add, ← mul_assoc) (mul-div_cancel _ (pow_pos (1022 + h - k))) in
    let whole : h + (52 - h) ≡ 52 = omega arith in let split : a ≡ 2 ^ h + (a - 2 ^ h) = omega arith in
    let lead : a * 2 ^ (52 - h) ≡ 2 ^ 52 + (a - 2 ^ h) * 2 ^ (52 - h) = ap (λ (x : ℕ). x * 2 ^ (52 - h)) split ∙ rw (add-mul, ← pow-add, whole) in
    let cover : k + (1074 - k) ≡ 1074 = omega arith in let power : 2 ^ k * 2 ^ (1074 - k) ≡ 2 ^ 1074 = rw (← pow-add, cover) in
    let units : m * up e * 2 ^ 1074 ≡ a * 2 ^ (1074 - k) * down e = rw (← power, ← mul_assoc, v.1) (mul_right_comm _ _ _) in
    rw v.0 (bits_of m e (a * 2 ^ (1074 - k)) units ∙ rw (dropped, digits, lead))

zero_bits : (x : Float) (k : ℕ) → HasValue x false 0 (2 ^ k) → to_bits binary64 x ≡ 0
unfolding size
zero_bits lib.Ieee.nan k v = elim v [ ]
zero_bits (lib.Ieee.inf _) k v = elim v [ ]
zero_bits (fin s m e) k v =
    let z : m * up e ≡ 0 = eq_of_mul-eq-mul_right (2 ^ k) (pow_pos k) (m * up e) 0 (v.1 ∙ simp zero-mul) in
    rw v.0 (bits_of m e 0 (rw z (simp zero-mul)))

-- the highest one bit of suc a is at size (suc a) - 1; it adds one to the exponent's field
pub ratio_bits_fact : (a k : ℕ) → k ≤ 52 → a ≤ 2 ^ k → to_bits binary64 (ratio a (2 ^ k)) ≡ ratio_bits a k
unfolding ratio_bits
ratio_bits_fact zero k K A = zero_bits (ratio 0 (2 ^ k)) k (ratio_val 0 k K A)
ratio_bits_fact (suc a) k K A =
    let z : 0 < size (suc a) = exponent_lt 0 (size (suc a)) (lt_of_le_of_lt (omega arith) (size-lt (suc a))) in
    let next : size (suc a) ≡ suc (size (suc a) - 1) = omega arith in
    let least = size_reaches (suc a) (size (suc a) - 1) (omega arith) in
    value_bits (suc a) (size (suc a) - 1) k K least (rw (← next) (size-lt (suc a))) A _ (ratio_val (suc a) k K A) ∙ omega arith

pub filled : (u n : ℕ) (x : Float) → x ≡ ratio u n → Filled u n x
filled u n x e = record { quotient = e; bits = λ k K P A. rw (e, P) (ratio_bits_fact u k K (rw P at A)) }
