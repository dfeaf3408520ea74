-- Laws of wiping, over any width: the part put back, and what a wiped list reads.
use Rattle.base_rules.specs.Basics.{◌≡◌, List, ◌++◌, ℕ, ◌+◌, ◌-◌, ◌*◌, ◌/◌, ◌<◌, ◌≤◌, ltb, length, get_or, take, drop, replicate, choose}
use Rattle.base_rules.proofs.Facts.{refl, ◌∙◌, div-mul-le_self, mul-le-mul_right, suc-mul, le_trans, add_assoc, arith, lt-ltb, ltb-true, by_lt}
use Rattle.base_rules.proofs.Facts.{List·getD-append, length-append, length-take, length-drop, length-replicate, get_or-replicate}
use Rattle.base_rules.proofs.Facts.{drop-drop, get_or-take, get_or-drop, get_or-append-add, length-take-le, choose_both, if_lt}
use borrow.Rule.Slice.PartMut.{put_mid}
use Rattle.book_stock.specs.Wipe.{wiped_at}

block_end : (width n b : ℕ) → b < n / width → b * width + width ≤ n
block_end width n b h = rw (← suc-mul) (le_trans (mul-le-mul_right width h) (div-mul-le_self n width))

-- what stands behind the first n of a list
behind : (p q : List ℕ) (n i : ℕ) → length p ≡ n → get_or (p ++ q) (n + i) 0 ≡ get_or q i 0
behind p q n i e = rw (← e) (get_or-append-add p q i 0)

module _ (width : ℕ) (xs : List ℕ) (b : ℕ) where
  -- the part of a `&mut` slice from `from` to `to`, zeroed and put back
  pub wiped_as : {from to : ℕ} {ys : List ℕ} → b < length xs / width → from ≡ b * width → to ≡ b * width + width
      → ys ≡ replicate (length (take (to - from) (drop from xs))) 0
      → put_mid from (to - from) xs ys ≡ wiped_at width xs b
  unfolding wiped_at
  wiped_as {from} {to} h p q z =
      let n : to - from ≡ width = omega arith in
      let k : length (take width (drop from xs)) ≡ width = simp (length-take, length-drop) (omega (arith, block_end width (length xs) b h)) in
      rw (z, n, k, drop-drop, p) (if_lt xs h refl)

  -- a fact of the wiped list: of the list with the block zeroed, and of the list as it was
  both_ways : (P : List ℕ → Type 0)
      → (b * width + width ≤ length xs → P (take (b * width) xs ++ (replicate width 0 ++ drop (b * width + width) xs))) → P xs → P (wiped_at width xs b)
  unfolding wiped_at
  both_ways P f p = choose_both P (ltb b (length xs / width)) _ xs (λ e. f (block_end width (length xs) b (ltb-true _ _ e))) (λ e. p)

  -- for callers: the length stays, the block reads 0, and another block stays
  pub wiped_length : length (wiped_at width xs b) ≡ length xs
  wiped_length = both_ways (λ (l : List ℕ). length l ≡ length xs)
      (λ h. simp (length-append, length-take, length-replicate, length-drop) (omega arith)) refl

  pub wiped_in : b < length xs / width → (i : ℕ) → i < width → get_or (wiped_at width xs b) (b * width + i) 0 ≡ 0
  unfolding wiped_at choose
  wiped_in h i l =
      let z : i < length (replicate {A = ℕ} width 0) = rw length-replicate l in
      rw (lt-ltb _ _ h) (behind (take (b * width) xs) _ _ i (length-take-le _ xs (omega (arith, block_end width (length xs) b h)))
      ∙ List·getD-append (replicate width 0) _ _ i z ∙ get_or-replicate width i 0 0 l)

  pub wiped_other : (c i : ℕ) → (c ≡ b → ⊥) → i < width → get_or (wiped_at width xs b) (c * width + i) 0 ≡ get_or xs (c * width + i) 0
  wiped_other c i d l =
      both_ways (λ (ys : List ℕ). get_or ys (c * width + i) 0 ≡ get_or xs (c * width + i) 0)
      (λ h. let f : length (take (b * width) xs) ≡ b * width = length-take-le _ xs (omega arith) in
      by_lt c b
      (λ q. let g : c * width + i < b * width = omega (arith, mul-le-mul_right width q, suc-mul c width) in
      List·getD-append (take (b * width) xs) _ _ _ (rw f g) ∙ get_or-take (b * width) xs _ 0 g)
      (λ q. let p : b < c = omega arith in let m : ℕ = c * width + i - (b * width + width) in
      let e : c * width + i ≡ b * width + (width + m) = omega (arith, mul-le-mul_right width p, suc-mul b width) in
      rw e (behind (take (b * width) xs) _ _ (width + m) f ∙ behind (replicate width 0) _ width m (length-replicate width 0) ∙ simp (get_or-drop, add_assoc))))
      refl
