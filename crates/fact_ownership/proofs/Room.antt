-- Why answer 14 never follows: an entry on a call's way names a frame of the domain's with the entry's type, who has a frame has a child, and
-- a child count has room wherever a frame is free.
use Rattle.base_rules.specs.Basics.{◌≡◌, List, [], ◌∷◌, ℕ, ◌+◌, ◌≤◌, ◌<◌, eqb}
use Rattle.base_rules.proofs.Facts.{refl, sym, ap, ◌∙◌, le_refl, le_trans, arith, eq-eqb, ne_eqb, by_eq}
use Rattle.book_ledger.specs.Codes.{TDR}
use Rattle.fact_keeps.specs.Views.{View, kind, number, children}
use Rattle.fact_ownership.specs.Owned.{Found, found, Tree, Shape, branch, walk, weight, times, same, one, Extent, tree, Owns, Keyed, Belongs, shape}
use Rattle.fact_ownership.specs.{Owned.points, Reached.Lists}
use Rattle.fact_ownership.proofs.Sums.{size, weight_mono, weight_none, one_le, sum, sum_mono, sum_const, sum_add, term_le_sum}
use Rattle.fact_ownership.proofs.Walk.{Path·to, here, down, limb_le, table_le, times_self}
use Rattle.fact_ownership.proofs.Domain.{Mine, mine_one, mine_is, mine_le, belongs_mine, mine_belongs, owns_size}
use Rattle.fact_ownership.proofs.{Sound.held, Sound.Sound, Sound.walk_mine, Sound.OnWay, Cases.Fits, Cases.fits_table, Cases.fits_page}

-- ---- what stands at the end of a path is found

fits_le : (q : Found → ℕ) {sh : Shape} {ty : ℕ} (f : ℕ) (l : List Found) → Fits sh ty → q (found f ty) ≤ weight q (branch sh f l)
unfolding branch weight
fits_le q f l fits_table = omega arith
fits_le q f l fits_page = omega arith

path_finds : (q : Found → ℕ) (t : Tree) (w c j ty : ℕ) → j < w → Fits (t.shape c j) ty → {n b : ℕ} → Path·to t w c n b
    → q (found (t.points c j) ty) ≤ weight q (walk t w n b)
path_finds q t w c j ty jw ft (here {n}) = le_trans (fits_le q (t.points c j) (walk t w n (t.below (t.points c j))) ft) (limb_le q t w n c j jw)
path_finds q t w c j ty jw ft (down {n} {b} i iw sh p) = omega (arith, path_finds q t w c j ty jw ft p, table_le q t w n b i iw sh)

module _ {z : Extent} {s : View} {l : Lists} (ok : Sound z s l) {d : ℕ} where
  pub entry_mine : Keyed s d → (c j ty : ℕ) → j < z.wide → Fits (shape s c j) ty → OnWay z s d c → Mine s d (found (points s c j) ty)
  entry_mine kd c j ty jw ft p = let x = found (points s c j) ty in
      walk_mine ok kd x (omega (arith, path_finds (λ y. one (same x y)) (tree s) z.wide c j ty jw ft p, times_self x))

  -- who has a frame has a child
  pub has_child_fact : (F : ℕ) → Belongs s d F → kind s d ≡ TDR → 1 ≤ children s (number s d)
  has_child_fact F b k =
      let x = found F (kind s F) in
      let o = ok.owns d k in
      omega (arith, o.once x, mine_is (belongs_mine b), owns_size o, weight_mono (λ y. one (same x y)) (λ y. 1) (held z s l d) (λ y k. one_le (same x y)))

-- ---- how many frames a list of different frames can have

sum_weight : (n : ℕ) (w : ℕ → Found → ℕ) (l : List Found) → sum n (λ f. weight (w f) l) ≡ weight (λ y. sum n (λ f. w f y)) l
unfolding weight
sum_weight n w [] = omega (arith, sum_const n 0)
sum_weight n w (y ∷ l) = sum_add n (λ f. w f y) (λ f. weight (w f) l) ∙ ap (λ (a : ℕ). sum n (λ f. w f y) + a) (sum_weight n w l)

sum_at : (n F : ℕ) → F < n → 1 ≤ sum n (λ f. one (eqb f F))
sum_at n F k = le_trans (rw (eq-eqb F F refl) (le_refl 1)) (term_le_sum n (λ f. one (eqb f F)) F k)

module _ (s : View) (d : ℕ) (l : List Found) (o : Owns s d l) (frames F : ℕ) (inside : (f : ℕ) → 1 < kind s f → f < frames) (Fin : F < frames)
    (free : kind s F ≡ 0) where
  member : (x : Found) → 1 ≤ times x l → Mine s d x
  member x k = mine_one s d x (rw (← (o.once x)) k)

  column : (f : ℕ) → weight (λ y. one (eqb f y.frame)) l + one (eqb f F) ≤ 1
  column f = by_eq f F
      (λ e. let none = weight_none (λ y. one (eqb f y.frame)) l (λ x k.
      let m = member x k in rw (ne_eqb f x.frame (λ q. omega (arith, m.typed, m.kind, ap (kind s) (sym q ∙ e), free))) refl) in
      omega (arith, one_le (eqb f F)))
      (λ e. let x = found f (kind s f) in
      let le = weight_mono (λ y. one (eqb f y.frame)) (λ y. one (same x y)) l (λ y k. by_eq f y.frame
      (λ q. rw (eq-eqb f y.frame q, eq-eqb (kind s f) y.type (ap (kind s) q ∙ (member y k).kind)) (le_refl 1))
      (λ q. rw (ne_eqb f y.frame q) (omega arith))) in
      rw (ne_eqb f F e) (omega (arith, o.once x, mine_le s d x)))

  -- while a frame is free, a domain has fewer children than there are frames
  pub child_room : size l + 1 ≤ frames
  child_room =
      let per : ℕ → ℕ = λ f. weight (λ y. one (eqb f y.frame)) l in
      let columns = sum_mono frames (λ f. per f + one (eqb f F)) (λ f. 1) (λ f _. column f) in
      let rows = weight_mono (λ y. 1) (λ y. sum frames (λ f. one (eqb f y.frame))) l
      (λ x k. sum_at frames x.frame (inside x.frame (mine_belongs (member x k)).type)) in
      omega (arith, sum_const frames 1, sum_at frames F Fin, sum_add frames per (λ f. one (eqb f F)), sum_weight frames (λ f y. one (eqb f y.frame)) l)
