-- Marks of a window of n frames: each has one count, which `count_of` finds, so the search of `is_mark` comes down to a single try.
use Rattle.base_rules.specs.Basics.{◌≡◌, true, false, ℕ, ◌+◌, ◌*◌, ◌^◌, ◌≤◌, ◌<◌, ltb, leb, choose, given, any_from}
use Rattle.base_rules.proofs.Facts.{refl, sym, ap, ◌∙◌, zero-le, le_trans, lt_of_le_of_lt, zero-mul, arith, lit≤, lit<, le→leb, pow_pos, pow_mono, lt-ltb}
use Rattle.base_rules.proofs.Facts.{leb-true, eq-eqb, eqb-true, choose_both, both_right, if_true, if_le, given_by, any_at, at_any}
use lib.{IntN.pos, Ieee.Fits.down_pos, Ieee.Fits.div-fits, Ieee.Bits.of_bits-to_bits}
use lib.Ieee.{Float, nan, inf, fin, binary64, up, down, round, of_int, mul, lt, le, is_nan, fits, of_bits, to_bits, in_float}
use lib.{Ieee.Exact.HasValue, Ieee.Back.unsigned_back}
use Rattle.base_units.specs.Limits.{frames_ok}
use Rattle.book_gauge.specs.{Fill.ratio, Marks.same_bits, Marks.cut_to, Marks.count_of, Marks.is_mark, Marks.zero_mark, Marks.Mark}
use Rattle.book_gauge.proofs.{Value.whole_val, Value.ratio_round, Value.ratio_val, Value.ratio_back, Power.frames_power}
use Rattle.book_gauge.proofs.Order.{same_test, by_test, values_lt, values_le}

-- ---- bits
same_self : (x : Float) (a c : ℕ) → HasValue x false a c → same_bits x x ≡ true
unfolding same_bits choose is_nan
same_self nan a c v = elim v [ ]
same_self (inf _) a c v = elim v [ ]
same_self (fin s m e) a c v = rw (eq-eqb (to_bits binary64 (fin s m e)) (to_bits binary64 (fin s m e)) refl)

-- ---- a whole number's float lies between -1 and 2 ^ 64
above_minus_one : (x : Float) (a : ℕ) → HasValue x false a 1 → lt (fin true 1 (pos 0)) x ≡ true
unfolding lt
above_minus_one nan a v = elim v [ ]
above_minus_one (inf _) a v = elim v [ ]
above_minus_one (fin s m e) a v = rw v.0 (lt-ltb 0 (1 * 1 * down e + m * up e * 1) (let h = down_pos e in omega arith))

-- ---- the frames of a window are a power of two that a float holds
module _ (n : ℕ) (F : frames_ok n ≡ true) where
  small : (frames_power n F).0 ≤ 52
  small = le_trans (frames_power n F).2 (lit≤ tt)

  pub frames_pos : 0 < n
  frames_pos = rw (frames_power n F).3 (pow_pos _)

  pub frames_round : (a : ℕ) → a ≤ n → ratio a n ≡ round binary64 false a n
  frames_round a = rw (frames_power n F).3 (ratio_round a _ small)

  pub mark_val : (x : Float) (m : Mark x n) → HasValue x false m.0 n
  mark_val x m =
      let val : (a : ℕ) → a ≤ n → HasValue (ratio a n) false a n = λ a. rw (frames_power n F).3 (ratio_val a _ small) in
      rw m.2 (val m.0 m.1)

  pub mark_same : (x : Float) (m : Mark x n) → same_bits x (ratio m.0 n) ≡ true
  mark_same x m = rw (← m.2) (same_self x m.0 n (mark_val x m))

  -- f64 comparisons of marks are those of their counts
  pub mark_le : (x y : Float) (p : Mark x n) (q : Mark y n) → le x y ≡ leb p.0 q.0
  mark_le x y p q = values_le x y p.0 q.0 n frames_pos (mark_val x p) (mark_val y q)

  pub mark_lt : (x y : Float) (p : Mark x n) (q : Mark y n) → lt x y ≡ ltb p.0 q.0
  mark_lt x y p q = values_lt x y p.0 q.0 n frames_pos (mark_val x p) (mark_val y q)

  pub mark_above : (x : Float) (p : Mark x n) → lt zero_mark x ≡ ltb 0 p.0
  mark_above x p = values_lt zero_mark x 0 p.0 n frames_pos (refl, zero-mul n) (mark_val x p)

  -- times the frames a mark is its count
  back : (a : ℕ) → a ≤ n → of_int binary64 (pos a) ≡ mul binary64 (ratio a n) (of_int binary64 (pos n))
  back a = rw (frames_power n F).3 (λ h. sym (ratio_back a _ small h))

  pub count_of_mark : (x : Float) (m : Mark x n) → m.0 ≡ count_of x n
  unfolding cut_to in_float
  count_of_mark x m =
      let a = m.0 in let few : a ≤ 2 ^ 52 = le_trans m.1 (rw (frames_power n F).3 (pow_mono {j = 52} small)) in
      let v = whole_val a (le_trans few (lit≤ tt)) in let below : a < 2 ^ 64 = lt_of_le_of_lt few (lit< tt) in
      rw (m.2, ← back a m.1)
      (if_true 0 (above_minus_one _ a v)
      (if_true 0 (values_lt _ (fin false 1 (pos 64)) a (2 ^ 64) 1 (lit< tt) v (refl, refl) ∙ lt-ltb a (2 ^ 64) below)
      (given_by _ (sym (unsigned_back binary64 64 a (le→leb a (2 ^ 53) (le_trans few (lit≤ tt))) below).1) (if_le 0 m.1 refl))))

-- ---- the search
count_within : (x : Float) (n : ℕ) → count_of x n ≤ n
unfolding cut_to given
count_within x n =
    let P : ℕ → Type 0 = λ r. r ≤ n in
    choose_both P _ _ _ (λ _. choose_both P _ _ _ (λ _. choose_both P _ _ _ (leb-true _ _) λ _. zero-le) λ _. zero-le) λ _. zero-le

-- a float with the bits of a ratio is that ratio, and its count is the one that is tried
module _ (x : Float) (n : ℕ) (X : fits binary64 x ≡ true) where
  pub found : any_from (λ (k : ℕ). same_bits x (ratio k n)) 0 (n + 1) ≡ true → Mark x n
  unfolding same_bits
  found e =
      let w = at_any _ (n + 1) e in
      let bits : to_bits binary64 x ≡ to_bits binary64 (ratio w.0 n) = eqb-true _ _ (both_right _ _ (both_right _ _ w.2)) in
      (w.0, omega arith, sym (of_bits-to_bits binary64 x (rw X tt)) ∙ ap (of_bits binary64) bits ∙ of_bits-to_bits binary64 _ (div-fits binary64 _ _))

  pub mark_tried : is_mark x n ≡ choose (frames_ok n) (same_bits x (ratio (count_of x n) n)) false
  unfolding is_mark choose
  mark_tried =
      let tried = same_bits x (ratio (count_of x n) n) in
      by_test (λ t. choose t (any_from (λ k. same_bits x (ratio k n)) 0 (n + 1)) false ≡ choose t tried false) (frames_ok n) (λ F. same_test _ tried
      (λ e. let m = found e in rw (← count_of_mark n F x m) (mark_same n F x m))
      (λ e. any_at _ (n + 1) (count_of x n) (let h = count_within x n in omega arith) e)) λ _. refl
