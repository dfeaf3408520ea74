-- What the definitions come to, for readers: the fill's bits, marks and lamp by counts of frames, and the paper's cases.
use Rattle.base_rules.specs.Basics.{◌≡◌, Bool, true, false, ℕ, ◌+◌, ◌*◌, ◌^◌, ◌≤◌, leb, ltb, choose, given}
use Rattle.base_rules.proofs.Facts.{refl, sym, ◌∙◌, true≢false, zero-le, le_refl, mul_comm, zero-mul, arith, lit≤, lit<, le-leb, lt-ltb, leb-true, ltb-true}
use Rattle.base_rules.proofs.Facts.{both_left, both_right, if_true, any_at}
use lib.{IntN.ℤ, IntN.pos, Ieee.Fits.nan-fits, Ieee.Fits.inf-fits, Ieee.Fits.div-fits, Ieee.Bits.is_true, Ieee.Bits.of_bits-to_bits}
use lib.Ieee.{Float, nan, inf, fin, binary64, of_int, div, mul, round, of_bits, fits, is_nan, to_bits, to_unsigned, lt}
use lib.{Ieee.Exact.HasValue, Ieee.Scale.round_same}
use Rattle.base_units.specs.Limits.{frames_ok}
use Rattle.book_gauge.specs.{declared.Gauge.Gauge, Fill.ratio, Fill.ratio_bits}
use Rattle.book_gauge.specs.Marks.{same_bits, cut_to, is_mark, marks_ok, Mark, Marks}
use Rattle.book_gauge.specs.Update.{lamp_after, after, with_marks, fresh_gauge}
use Rattle.book_gauge.proofs.{Bits.ratio_bits_fact, Order.by_test, Power.power_frames}
use Rattle.book_gauge.proofs.Marks.{frames_pos, frames_round, mark_val, mark_same, mark_le, mark_lt, mark_above, found, mark_tried}

-- a fill is the float with the bits `ratio_bits`, and no other
pub fill_by_bits : (a k : ℕ) → k ≤ 52 → a ≤ 2 ^ k → ratio a (2 ^ k) ≡ of_bits binary64 (ratio_bits a k)
fill_by_bits a k K A = rw (← ratio_bits_fact a k K A) (sym (of_bits-to_bits binary64 (ratio a (2 ^ k)) (div-fits binary64 _ _)))

-- ---- marks: `is_mark` passes for k / n and for nothing else
pub mark_of : (x : Float) (n : ℕ) → fits binary64 x ≡ true → is_mark x n ≡ true → Mark x n
unfolding is_mark
mark_of x n X e = found x n X (both_right _ _ e)

pub mark_frames : (x : Float) (n : ℕ) → is_mark x n ≡ true → frames_ok n ≡ true
unfolding is_mark
mark_frames x n e = both_left _ _ e

pub of_mark : (x : Float) (n : ℕ) → frames_ok n ≡ true → Mark x n → is_mark x n ≡ true
unfolding is_mark
of_mark x n F m = sym (if_true false F (sym (any_at _ (n + 1) m.0 (omega arith) (mark_same n F x m))))

-- what is no ratio of whole numbers, or has its sign bit set, is no mark
no_mark : (x : Float) (n : ℕ) → fits binary64 x ≡ true → ((a : ℕ) → HasValue x false a n → ⊥) → is_mark x n ≡ false
no_mark x n X h =
    by_test (λ t. t ≡ false) (is_mark x n) (λ e. let m = mark_of x n X e in absurd (h m.0 (mark_val n (mark_frames x n e) x m))) λ _. refl

pub nan_no_mark : (n : ℕ) → is_mark nan n ≡ false
nan_no_mark n = no_mark nan n (is_true _ (nan-fits binary64)) (λ a v. v)

pub inf_no_mark : (s : Bool) (n : ℕ) → is_mark (inf s) n ≡ false
inf_no_mark s n = no_mark (inf s) n (is_true _ (inf-fits binary64 s)) (λ a v. v)

pub sign_no_mark : (m : ℕ) (e : ℤ) (n : ℕ) → fits binary64 (fin true m e) ≡ true → is_mark (fin true m e) n ≡ false
sign_no_mark m e n X = no_mark (fin true m e) n X (λ a v. true≢false v.0)

pub minus_zero_no_mark : (n : ℕ) → is_mark (fin true 0 (pos 0)) n ≡ false
unfolding fits
minus_zero_no_mark n = sign_no_mark 0 (pos 0) n refl

-- ---- both marks
pub marks_of_fact : (raise clear : Float) (n : ℕ) → fits binary64 raise ≡ true → fits binary64 clear ≡ true → marks_ok raise clear n ≡ true → Marks raise clear n
unfolding marks_ok
marks_of_fact raise clear n R C e =
    let r = both_left _ _ e in let c = both_left _ _ (both_right _ _ e) in let o = both_right _ _ (both_right _ _ e) in
    let F = mark_frames raise n r in let hi = mark_of raise n R r in let lo = mark_of clear n C c in
    let order = leb-true _ _ (sym (mark_le n F clear raise lo hi) ∙ both_left _ _ o) in
    record { high = hi; low = lo; order = order; above = ltb-true _ _ (sym (mark_above n F raise hi) ∙ both_right _ _ o) }

module _ (n : ℕ) (F : frames_ok n ≡ true) where
  pub of_marks : (raise clear : Float) → Marks raise clear n → marks_ok raise clear n ≡ true
  unfolding marks_ok choose
  of_marks raise clear m =
      let hi = m.high in let lo = m.low in
      rw (of_mark raise n F hi, of_mark clear n F lo, mark_le n F clear raise lo hi, mark_above n F raise hi, le-leb _ _ m.order) (lt-ltb _ _ m.above)

  -- ---- the lamp by counts: at the raise mark's or more frames in use it is lit, below the clear mark's it is put out
  pub lamp_counts : (raise clear fill : Float) (p : Mark raise n) (q : Mark clear n) (u : Mark fill n) (was : Bool)
      → lamp_after raise clear fill was ≡ choose (leb p.0 u.0) true (choose (ltb u.0 q.0) false was)
  unfolding lamp_after
  lamp_counts raise clear fill p q u was = rw (mark_le n F raise fill p u, mark_lt n F fill clear u q)

  pub after_counts : (g : Gauge) (m : Marks g.raise g.clear n) (u : ℕ) → u ≤ n
      → (after g u n).lamp ≡ choose (leb m.high.0 u) true (choose (ltb u m.low.0) false g.lamp)
  after_counts g m u U = lamp_counts g.raise g.clear (ratio u n) m.high m.low (u, U, refl) g.lamp

  pub marked_counts : (raise clear : Float) (m : Marks raise clear n) (u : ℕ) → u ≤ n → (with_marks raise clear u n).lamp ≡ leb m.high.0 u
  marked_counts raise clear m u U = mark_le n F raise (ratio u n) m.high (u, U, refl)

  -- ---- a reset gauge: its marks are all and none of the frames, its fill is that of none in use
  exact : (a b : ℕ) → a ≤ n → a * 1 ≡ b * n → ratio a n ≡ round binary64 false b 1
  exact a b h e = frames_round n F a h ∙ round_same binary64 false a n b 1 (frames_pos n F) (lit< tt) e

  pub fresh_fill : fresh_gauge.fill ≡ ratio 0 n
  unfolding round
  fresh_fill = sym (exact 0 0 zero-le (simp zero-mul))

  pub fresh_ok : marks_ok fresh_gauge.raise fresh_gauge.clear n ≡ true
  unfolding round
  fresh_ok =
      let hi : Mark fresh_gauge.raise n = (n, le_refl n, sym (exact n 1 (le_refl n) (mul_comm n 1))) in
      of_marks _ _ (record { high = hi; low = (0, zero-le, fresh_fill); order = zero-le; above = frames_pos n F })

-- an update leaves marks in rule
pub after_ok : (g : Gauge) (u n : ℕ) → marks_ok g.raise g.clear n ≡ true → marks_ok (after g u n).raise (after g u n).clear n ≡ true
after_ok g u n e = e

-- ---- the program's window and marks: 1024 frames, 0.75 and 0.5
program_frames : frames_ok 1024 ≡ true
program_frames = power_frames 10 (lit≤ tt) (lit≤ tt)

pub three_quarters : ratio 768 1024 ≡ of_bits binary64 0x3fe8_0000_0000_0000
unfolding div of_int of_bits
three_quarters = refl

pub half : ratio 512 1024 ≡ of_bits binary64 0x3fe0_0000_0000_0000
unfolding div of_int of_bits
half = refl

pub program_ok : marks_ok (ratio 768 1024) (ratio 512 1024) 1024 ≡ true
program_ok = of_marks 1024 program_frames _ _ (record { high = (768, lit≤ tt, refl); low = (512, lit≤ tt, refl); order = lit≤ tt; above = lit< tt })

-- the next float above 0.75, and half a frame, are no marks
pub next_no_mark : is_mark (of_bits binary64 0x3fe8_0000_0000_0001) 1024 ≡ false
unfolding choose given same_bits cut_to fits of_bits to_bits of_int div mul lt to_unsigned is_nan
next_no_mark = mark_tried (of_bits binary64 0x3fe8_0000_0000_0001) 1024 refl ∙ rw program_frames

pub half_no_mark : is_mark (ratio 1 2048) 1024 ≡ false
unfolding choose given same_bits cut_to fits of_bits to_bits of_int div mul lt to_unsigned is_nan
half_no_mark = mark_tried (ratio 1 2048) 1024 refl ∙ rw program_frames
