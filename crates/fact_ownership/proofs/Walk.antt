-- The fresh walk under a change of one entry, and where nothing it reads changes: proved once over the level, the width and the entry's shape.
use Rattle.base_rules.specs.Basics.{◌≡◌, false, List, [], ◌∷◌, ◌⊎◌, ℕ, zero, suc, ◌+◌, ◌*◌, ◌≤◌, ◌<◌, eqb}
use Rattle.base_rules.proofs.Facts.{refl, sym, ap, ◌∙◌, inl, inr, zero-add, zero-mul, one-mul, le_trans, le_of_eq, add-le-add, arith, eq-eqb, ne_eqb, by_eq}
use Rattle.book_ledger.specs.Codes.{EPT}
use Rattle.fact_ownership.specs.Owned.{Found, found, Tree, Shape, nothing, table, page, branch, walk, weight, times, same, one, both}
use Rattle.fact_ownership.proofs.Sums.{by_pair, sum, sum_const, sum_mono, sum_add, term_le_sum, balance, weight_each, each_cong, each_nil, same_refl}

-- what stands below an entry, where it is a table
unfoldable pub deeper : Shape → ℕ → ℕ
deeper nothing v = 0
deeper table v = v
deeper page v = 0

-- how often the walk reads entry j of block c
unfoldable pub reads : Tree → ℕ → ℕ → ℕ → ℕ → ℕ → ℕ
reads t w c j zero b = 0
reads t w c j (suc n) b = sum w (λ i. one (both (eqb b c) (eqb i j)) + deeper (t.shape b i) (reads t w c j n (t.below (t.points b i))))

-- .. and at and below entry i of block b
abbrev visits : Tree → ℕ → ℕ → ℕ → ℕ → ℕ → ℕ → ℕ
visits t w c j n b i = one (both (eqb b c) (eqb i j)) + deeper (t.shape b i) (reads t w c j n (t.below (t.points b i)))

-- the part of the walk that one entry adds
abbrev pub limb : Tree → ℕ → ℕ → ℕ → ℕ → List Found
limb t w n b i = branch (t.shape b i) (t.points b i) (walk t w n (t.below (t.points b i)))

pub weight_walk : (q : Found → ℕ) (t : Tree) (w n b : ℕ) → weight q (walk t w (suc n) b) ≡ sum w (λ i. weight q (limb t w n b i))
unfolding walk
weight_walk q t w n b = weight_each q w (limb t w n b)

-- (b, i) is not (c, j)
pub elsewhere : (c j b i : ℕ) → ((b ≡ c) × (i ≡ j) → ⊥) → both (eqb b c) (eqb i j) ≡ false
elsewhere c j b i ne = by_eq b c (λ e. rw (eq-eqb b c e, ne_eqb i j (λ f. ne (e, f))) refl) (λ e. rw (ne_eqb b c e) refl)

-- ---- one entry changes

-- Where P holds, tree t' is t with another entry at (c, j). `old` and `new` are what that entry adds to a weight, on whatever level; the old one leads
-- not back to (c, j).
pub record Edit (t t' : Tree) (w : ℕ) (P : ℕ → ℕ → Type 0) (c j : ℕ) (q : Found → ℕ) (old new : ℕ) : Type 1 where
  pub shape : (n b i : ℕ) → P (suc n) b → i < w → ((b ≡ c) × (i ≡ j) → ⊥) → t'.shape b i ≡ t.shape b i
  pub points : (n b i : ℕ) → P (suc n) b → i < w → ((b ≡ c) × (i ≡ j) → ⊥) → t'.points b i ≡ t.points b i
  pub below : (n b i : ℕ) → P (suc n) b → i < w → t.shape b i ≡ table → t'.below (t.points b i) ≡ t.below (t.points b i)
  pub closed : (n b i : ℕ) → P (suc n) b → i < w → t.shape b i ≡ table → P n (t.below (t.points b i))
  pub was : (n : ℕ) → weight q (limb t w n c j) ≡ old
  pub now : (n : ℕ) → weight q (limb t' w n c j) ≡ new
  pub apart : (n : ℕ) → deeper (t.shape c j) (reads t w c j n (t.below (t.points c j))) ≡ 0

module _ (t t' : Tree) (w : ℕ) (P : ℕ → ℕ → Type 0) (c j : ℕ) (q : Found → ℕ) (old new : ℕ) (e : Edit t t' w P c j q old new) where
  -- an entry that did not change
  kept : (sh : Shape) (f r : ℕ) (l l' : List Found) → (sh ≡ table → weight q l' + r * old ≡ weight q l + r * new)
      → weight q (branch sh f l') + deeper sh r * old ≡ weight q (branch sh f l) + deeper sh r * new
  unfolding branch deeper weight
  kept nothing f r l l' h = rw (zero-mul old, zero-mul new) refl
  kept table f r l l' h = omega (arith, h refl)
  kept page f r l l' h = rw (zero-mul old, zero-mul new) refl

  abbrev Even : ℕ → ℕ → Type 0
  Even n a = weight q (walk t' w n a) + reads t w c j n a * old ≡ weight q (walk t w n a) + reads t w c j n a * new

  one_place : (n b i : ℕ) → P (suc n) b → i < w → ((a : ℕ) → P n a → Even n a)
      → weight q (limb t' w n b i) + visits t w c j n b i * old ≡ weight q (limb t w n b i) + visits t w c j n b i * new
  one_place n b i p k ih = by_pair b c i j
      (λ h. rw (eq-eqb b c h.0, eq-eqb i j h.1, h.0, h.1, e.apart n, e.was n, e.now n) (rw (one-mul old, one-mul new) (omega arith)))
      (λ ne. rw (elsewhere c j b i ne, e.shape n b i p k ne, e.points n b i p k ne, zero-add)
      (kept (t.shape b i) (t.points b i) _ _ _ (λ sh. rw (e.below n b i p k sh) (ih (t.below (t.points b i)) (e.closed n b i p k sh)))))

  pub change : (n b : ℕ) → P n b → Even n b
  unfolding reads
  change zero b p = unfold walk weight in rw (zero-mul old, zero-mul new) refl
  change (suc n) b p = rw (weight_walk q t' w n b, weight_walk q t w n b)
      (balance w (λ i. weight q (limb t' w n b i)) (λ i. weight q (limb t w n b i)) (visits t w c j n b) old new (λ i k. one_place n b i p k (change n)))

-- ---- how often an entry is read

-- a frame whose table is block c
abbrev pub leads : Tree → ℕ → Found → ℕ
leads t c y = one (both (eqb y.type EPT) (eqb (t.below y.frame) c))

pub few : (j m : ℕ) → (sum m (λ i. one (eqb i j)) ≤ 1) × (m ≤ j → sum m (λ i. one (eqb i j)) ≡ 0)
unfolding sum
few j zero = (omega arith, λ h. refl)
few j (suc m) = by_eq m j
    (λ e. rw (eq-eqb m j e) (omega (arith, (few j m).1 (le_of_eq e)), λ h. absurd (omega arith)))
    (λ e. rw (ne_eqb m j e) (omega (arith, (few j m).0), λ h. omega (arith, (few j m).1 (omega arith))))

hits : (c j b n : ℕ) → sum n (λ i. one (both (eqb b c) (eqb i j))) ≤ one (eqb b c)
hits c j b n = by_eq b c (λ e. rw (eq-eqb b c e) (few j n).0) (λ e. rw (ne_eqb b c e) (omega (arith, sum_const n 0)))

module _ (t : Tree) (w c j : ℕ) where
  deep_bound : (sh : Shape) (f r : ℕ) (l : List Found) → r ≤ one (eqb (t.below f) c) + weight (leads t c) l → deeper sh r ≤ weight (leads t c) (branch sh f l)
  unfolding deeper branch weight
  deep_bound nothing f r l h = omega arith
  deep_bound table f r l h = h
  deep_bound page f r l h = omega arith

  -- at most as often as the walk finds its table, and once more at the root
  pub reads_bound : (n b : ℕ) → reads t w c j n b ≤ one (eqb b c) + weight (leads t c) (walk t w n b)
  unfolding reads
  reads_bound zero b = omega arith
  reads_bound (suc n) b =
      let below : ℕ → ℕ = λ i. deeper (t.shape b i) (reads t w c j n (t.below (t.points b i))) in
      rw (weight_walk (leads t c) t w n b, sum_add w (λ i. one (both (eqb b c) (eqb i j))) below)
      (add-le-add (hits c j b w) (sum_mono w below (λ i. weight (leads t c) (limb t w n b i))
      (λ i k. deep_bound (t.shape b i) (t.points b i) _ _ (reads_bound n (t.below (t.points b i))))))

-- The walk of a call, from block b down to block c, through tables only.
pub data Path·to (t : Tree) (w c : ℕ) : ℕ → ℕ → Type 0 where
  here : {n : ℕ} → Path·to t w c (suc n) c
  down : {n b : ℕ} (i : ℕ) → i < w → t.shape b i ≡ table → Path·to t w c n (t.below (t.points b i)) → Path·to t w c (suc n) b

module _ (t : Tree) (w c j : ℕ) (jw : j < w) where
  pub reads_path : {n b : ℕ} → Path·to t w c n b → 1 ≤ reads t w c j n b
  unfolding reads deeper
  reads_path (here {n}) =
      let h : 1 ≤ visits t w c j n c j = rw (eq-eqb c c refl, eq-eqb j j refl) (omega arith) in le_trans h (term_le_sum w (visits t w c j n c) j jw)
  reads_path (down {n} {b} i iw sh p) =
      let h : 1 ≤ visits t w c j n b i = rw sh (omega (arith, reads_path p)) in le_trans h (term_le_sum w (visits t w c j n b) i iw)

-- what one entry adds is part of the walk
pub limb_le : (q : Found → ℕ) (t : Tree) (w n b i : ℕ) → i < w → weight q (limb t w n b i) ≤ weight q (walk t w (suc n) b)
limb_le q t w n b i h = rw (weight_walk q t w n b) (term_le_sum w (λ i. weight q (limb t w n b i)) i h)

-- a table's frame, and all that the walk of the table finds, are found above
pub table_le : (q : Found → ℕ) (t : Tree) (w n b i : ℕ) → i < w → t.shape b i ≡ table
    → q (found (t.points b i) EPT) + weight q (walk t w n (t.below (t.points b i))) ≤ weight q (walk t w (suc n) b)
unfolding branch weight
table_le q t w n b i h e = rw e at (limb_le q t w n b i h)

pub times_self : (x : Found) → one (same x x) ≡ 1
times_self x = ap one (same_refl x)

-- the block that a path ends in is its beginning, or the table of a frame that the walk finds
pub path_last : (t : Tree) (w c : ℕ) {n b : ℕ} → Path·to t w c n b → (c ≡ b) ⊎ ((g : ℕ) × (1 ≤ times (found g EPT) (walk t w n b)) × (t.below g ≡ c))
path_last t w c here = inl refl
path_last t w c (down {n} {b} i iw sh p) =
    let f = t.points b i in
    inr (elim (path_last t w c p) [
      | inl e ↦ (f, omega (arith, table_le (λ y. one (same (found f EPT) y)) t w n b i iw sh, times_self (found f EPT)), sym e)
      | inr r ↦ (r.0, omega (arith, table_le (λ y. one (same (found r.0 EPT) y)) t w n b i iw sh, r.1), r.2)
    ])

-- ---- nothing that the walk reads changes

-- P n b: the walk of n levels from b meets only what both trees have alike
pub record Alike (t t' : Tree) (w : ℕ) (P : ℕ → ℕ → Type 0) : Type 1 where
  pub shape : (n b i : ℕ) → P (suc n) b → i < w → t'.shape b i ≡ t.shape b i
  pub points : (n b i : ℕ) → P (suc n) b → i < w → t'.points b i ≡ t.points b i
  pub below : (n b i : ℕ) → P (suc n) b → i < w → t.shape b i ≡ table → t'.below (t.points b i) ≡ t.below (t.points b i)
  pub closed : (n b i : ℕ) → P (suc n) b → i < w → t.shape b i ≡ table → P n (t.below (t.points b i))

branch_cong : (sh : Shape) (f : ℕ) (l m : List Found) → (sh ≡ table → l ≡ m) → branch sh f l ≡ branch sh f m
unfolding branch
branch_cong nothing f l m h = refl
branch_cong table f l m h = ap (λ (x : List Found). found f EPT ∷ x) (h refl)
branch_cong page f l m h = refl

module _ (t t' : Tree) (w : ℕ) (P : ℕ → ℕ → Type 0) (a : Alike t t' w P) where
  pub same_walk : (n b : ℕ) → P n b → walk t' w n b ≡ walk t w n b
  unfolding walk
  same_walk zero b p = refl
  same_walk (suc n) b p = each_cong w (limb t' w n b) (limb t w n b) (λ i k.
      rw (a.shape n b i p k, a.points n b i p k)
      (branch_cong (t.shape b i) (t.points b i) (walk t' w n (t'.below (t.points b i))) (walk t w n (t.below (t.points b i)))
      (λ e. rw (a.below n b i p k e) (same_walk n (t.below (t.points b i)) (a.closed n b i p k e)))))

-- ---- an empty table

module _ (t : Tree) (w b : ℕ) (h : (i : ℕ) → i < w → t.shape b i ≡ nothing) where
  pub blank : (n : ℕ) → walk t w n b ≡ []
  unfolding walk
  blank zero = refl
  blank (suc n) = each_cong w (limb t w n b) (λ i. []) (λ i k. rw (h i k) (unfold branch in refl)) ∙ each_nil w

  pub walk_empty : (q : Found → ℕ) (n : ℕ) → weight q (walk t w n b) ≡ 0
  walk_empty q n = rw (blank n) (unfold weight in refl)

  pub reads_empty : (c j : ℕ) → (b ≡ c → ⊥) → (n : ℕ) → reads t w c j n b ≡ 0
  reads_empty c j ne n = omega (arith, walk_empty (leads t c) n, rw (ne_eqb b c ne) at (reads_bound t w c j n b))
