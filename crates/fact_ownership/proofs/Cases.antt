-- The changes that calls make, each a shift of a domain's frames: one frame at a time so far.
use Rattle.base_rules.specs.Basics.{◌≡◌, List, [], ◌∷◌, ◌++◌, ℕ, suc, ◌+◌, ◌*◌, ◌≤◌, ◌<◌, eqb, choose}
use Rattle.base_rules.proofs.Facts.{refl, sym, ap, ap₂, ◌∙◌, subst, one-mul, zero-mul, add-mul, arith, eq-eqb, ne_eqb, by_eq, by_lt}
use Rattle.book_ledger.specs.Codes.{NDA, TDR, TDCX, EPT, REG, TEARDOWN}
use Rattle.fact_keeps.specs.Views.{View, kind, owner, number, life, listed, children}
use Rattle.fact_ownership.specs.Owned.{Found, found, Shape, Tree, nothing, table, page, branch, walk, weight, times, same, without, each, one, Extent}
use Rattle.fact_ownership.specs.Owned.{root_block, tree, controls, tree_of, finds, mine, Keyed, Block, Belongs, shape, points}
use Rattle.fact_ownership.specs.{Reached.Lists, Reached.noted, Always.Numbered, Always.a_record}
use Rattle.fact_ownership.proofs.Sums.{size, same_refl, weight_append, weight_cong, each_cong}
use Rattle.fact_ownership.proofs.Walk.{reads, deeper, Edit, change, table_le, times_self, Alike, same_walk, walk_empty, reads_empty, blank}
use Rattle.fact_ownership.proofs.Domain.{Mine, mine_is, mine_one, mine_not, mine_belongs, belongs_mine, mine_choose, same_controls, Home, home}
use Rattle.fact_ownership.proofs.Domain.{table_mine, home_below, SameFrame, SameEntry, SameRecord, kept_walk}
use Rattle.fact_ownership.proofs.Sound.{held, held_key, held_freed, held_none, childs, childs_tdr, childs_none, Sound, owns_walk, walk_once, walk_mine}
use Rattle.fact_ownership.proofs.Sound.{reads_one, Spare, holds, holds_size, OnWay}
use Rattle.fact_ownership.proofs.Shift.{Whose, itself, its, nobodys, Moves, keeps, moves, Spot, Numbering, Shift, Balanced, Rest}

-- ---- one frame

-- what an edit on domain d leaves: all frames but F and all records but r stay as they are, numbers and entries are in order
pub record Step (z : Extent) (s s' : View) (d F r : ℕ) : Type 0 where
  pub frames : (f : ℕ) → (f ≡ F → ⊥) → SameFrame s s' f
  pub others : (k : ℕ) → (k ≡ r → ⊥) → SameRecord s s' k
  pub numbers : (k f : ℕ) (nb : Numbered k) → kind s' f ≡ k → Numbering z s s' f nb
  pub spots : (b i : ℕ) → i < z.wide → Spot z s s' d b i

-- what a touched frame is among those that d has
abbrev pub list_of : (s : View) (d f : ℕ) → Whose s d f → List Found
list_of s d f (itself e k) = []
list_of s d f (its b) = found f (kind s f) ∷ []
list_of s d f (nobodys k) = []

module _ (s : View) (d f : ℕ) (x : Found) where
  list_mine : (w : Whose s d f) → x.frame ≡ f → times x (list_of s d f w) ≡ mine s d x
  unfolding weight
  list_mine (itself _ k) e = sym (mine_not s d x (λ m. omega (arith, m.typed, m.kind, ap (kind s) e)))
  list_mine (nobodys k) e = sym (mine_not s d x (λ m. omega (arith, m.typed, m.kind, ap (kind s) e)))
  list_mine (its b) e = by_eq x.type (kind s f)
      (λ q. let m : Mine s d x = record { typed = rw q b.type; kind = ap (kind s) e ∙ sym q; owner = ap (owner s) e ∙ b.owner } in
      rw (eq-eqb x.frame f e, eq-eqb x.type (kind s f) q, mine_is m) refl)
      (λ q. rw (eq-eqb x.frame f e, ne_eqb x.type (kind s f) q, mine_not s d x (λ m. q (sym m.kind ∙ ap (kind s) e))) refl)

  list_other : (w : Whose s d f) → (x.frame ≡ f → ⊥) → times x (list_of s d f w) ≡ 0
  unfolding weight
  list_other (itself _ k) e = refl
  list_other (nobodys k) e = refl
  list_other (its b) e = rw (ne_eqb x.frame f e) refl

same_mine : (s s' : View) (d : ℕ) (x : Found) → kind s' x.frame ≡ kind s x.frame → owner s' x.frame ≡ owner s x.frame → mine s' d x ≡ mine s d x
same_mine s s' d x k o = mine_choose s s' d d x
    (λ m. record { typed = m.typed; kind = k ∙ m.kind; owner = o ∙ m.owner })
    (λ m. record { typed = m.typed; kind = sym k ∙ m.kind; owner = sym o ∙ m.owner })

-- F changes hands, or keeps type, owner and number
pub data Moved (s s' : View) (d F : ℕ) : List Found → List Found → Type 0 where
  hands : (a : Whose s d F) (b : Whose s' d F) → Moved s s' d F (list_of s d F a) (list_of s' d F b)
  alters : Whose s d F → kind s' F ≡ kind s F → owner s' F ≡ owner s F → number s' F ≡ number s F → Moved s s' d F [] []

whose_now : {s : View} {d F : ℕ} (s' : View) → kind s' F ≡ kind s F → owner s' F ≡ owner s F → Whose s d F → Whose s' d F
whose_now s' k o (itself e q) = itself e (k ∙ q)
whose_now s' k o (its b) = its (record { type = rw k b.type; owner = o ∙ b.owner })
whose_now s' k o (nobodys q) = nobodys (k ∙ q)

module _ {z : Extent} {s s' : View} {d F r : ℕ} (p : Step z s s' d F r) where
  one_moves : {gone come : List Found} → Moved s s' d F gone come → (f : ℕ) → Moves s s' d f
  one_moves (hands a b) f = by_eq f F (λ e. rw e (moves a b)) (λ e. keeps (p.frames f e))
  one_moves (alters a k o n) f = by_eq f F (λ e. rw e (moves a (whose_now s' k o a))) (λ e. keeps (p.frames f e))

  other_mine : (x : Found) → (x.frame ≡ F → ⊥) → mine s' d x ≡ mine s d x
  other_mine x e = let q = p.frames x.frame e in same_mine s s' d x q.kind q.owner

  one_recorded : {gone come : List Found} → Moved s s' d F gone come → (x : Found) → mine s' d x + times x gone ≡ mine s d x + times x come
  one_recorded (hands a b) x = by_eq x.frame F
      (λ e. omega (arith, list_mine s d F x a e, list_mine s' d F x b e))
      (λ e. omega (arith, list_other s d F x a e, list_other s' d F x b e, other_mine x e))
  one_recorded (alters a k o n) x = ap (λ (i : ℕ). i + times x []) (by_eq x.frame F (λ e. same_mine s s' d x (rw e k) (rw e o)) (other_mine x))

  -- an edit of one frame is a shift
  one_shift : {l l' : Lists} {gone come : List Found} → Moved s s' d F gone come → Balanced (held z s' l' d) gone (held z s l d) come
      → childs s' d + size gone ≡ childs s d + size come → ((f : ℕ) → Belongs s' d f → kind s' d ≡ TDR)
      → ((e : ℕ) → kind s e ≡ TDR → (e ≡ d → ⊥) → number s e ≡ r → ⊥) → Rest s l l' d → Shift z s s' l l' d gone come
  one_shift m h c o u rest =
      let records : (e : ℕ) → kind s e ≡ TDR → (e ≡ d → ⊥) → SameRecord s s' (number s e) = λ e ke ne. p.others (number s e) (u e ke ne) in
      search (one_moves, one_recorded)

-- domain d is there before and after, with its frame as it was
module _ {z : Extent} {s : View} {l : Lists} (ok : Sound z s l) {s' : View} {d F : ℕ} (p : Step z s s' d F (number s d)) (sd : SameFrame s s' d)
    (kd : kind s d ≡ TDR) where
  stays : {l' : Lists} {gone come : List Found} → Moved s s' d F gone come → Balanced (held z s' l' d) gone (held z s l d) come
      → children s' (number s d) + size gone ≡ children s (number s d) + size come → Rest s l l' d → Shift z s s' l l' d gone come
  stays m h c = one_shift p m h (rw (childs_tdr s' d (sd.kind ∙ kd), childs_tdr s d kd, sd.number) c) (λ f b. sd.kind ∙ kd)
      (λ e ke ne q. ne (ok.unique TDR e d a_record ke kd q))

-- ---- entries and records

-- an entry of this shape names a frame of this type
pub data Fits : Shape → ℕ → Type 0 where
  fits_table : Fits table EPT
  fits_page : Fits page REG

pub fits_typed : {sh : Shape} {ty : ℕ} → Fits sh ty → 1 < ty
fits_typed fits_table = omega arith
fits_typed fits_page = omega arith

pub fits_some : {sh : Shape} {ty : ℕ} → Fits sh ty → sh ≡ nothing → ⊥
fits_some fits_table e = let q : ◌≡◌ {A = ℕ} 0 1 = cc in omega arith
fits_some fits_page e = let q : ◌≡◌ {A = ℕ} 0 1 = cc in omega arith

fits_branch : (q : Found → ℕ) {sh : Shape} {ty : ℕ} (f : ℕ) (l : List Found) → Fits sh ty → (ty ≡ EPT → weight q l ≡ 0)
    → weight q (branch sh f l) ≡ q (found f ty)
unfolding branch weight
fits_branch q f l fits_table h = omega (arith, h refl)
fits_branch q f l fits_page h = omega arith

fits_deeper : {sh : Shape} {ty : ℕ} (v : ℕ) → Fits sh ty → (ty ≡ EPT → v ≡ 0) → deeper sh v ≡ 0
unfolding deeper
fits_deeper v fits_table h = h refl
fits_deeper v fits_page h = refl

-- d's record, with its child count at n
pub record Counted (s s' : View) (r n : ℕ) : Type 0 where
  pub listed : listed s' r ≡ listed s r
  pub control : (i : ℕ) → s'.control r i ≡ s.control r i
  pub children : children s' r ≡ n

-- a domain that has its key before and after
pub record On (z : Extent) (s s' : View) (d F : ℕ) : Type 0 where
  pub step : Step z s s' d F (number s d)
  pub same : SameFrame s s' d
  pub keyed : Keyed s d
  pub keyed' : Keyed s' d

module _ {z : Extent} {s : View} {l : Lists} (ok : Sound z s l) {s' : View} {d F : ℕ} (o : On z s s' d F) {gone come : List Found}
    (m : Moved s s' d F gone come) where
  found_shift : Balanced (finds z s' d) gone (finds z s d) come
      → children s' (number s d) + size gone ≡ children s (number s d) + size come → Shift z s s' l l d gone come
  found_shift h c = stays ok o.step o.same o.keyed.tdr m (λ q. rw (held_key z s' l d o.keyed', held_key z s l d o.keyed) (h q)) c
      (λ e _ _ _. refl)

  -- its listed control pages stay
  tree_shift : {n : ℕ} → Counted s s' (number s d) n → Balanced (tree_of z s' d) gone (tree_of z s d) come
      → n + size gone ≡ children s (number s d) + size come → Shift z s s' l l d gone come
  unfolding finds
  tree_shift c h e =
      found_shift (λ q. rw (same_controls s s' d o.same.number c.listed c.control) (simp weight_append (omega (arith, h q)))) (rw c.children e)

-- all entries of d's blocks but (c, j) stay
abbrev pub Others : Extent → View → View → ℕ → ℕ → ℕ → Type 0
Others z s s' d c j = (b i : ℕ) → i < z.wide → Block z s d b → ((b ≡ c) × (i ≡ j) → ⊥) → SameEntry s s' b i

-- entry (c, j) on d's way changes, to tree t': the walk has the one frame more or fewer
own_change : {z : Extent} {s : View} {l : Lists} (ok : Sound z s l) {d : ℕ} (kd : Keyed s d) (c j : ℕ) (place : j < z.wide) (path : OnWay z s d c)
    (t' : Tree) (q : Found → ℕ) (old new : ℕ) → Edit (tree s) t' z.wide (Home z s d) c j q old new
    → weight q (walk t' z.wide z.deep (root_block z s d)) + old ≡ weight q (tree_of z s d) + new
own_change {z} {s} ok {d} kd c j place path t' q old new e =
    rw (reads_one ok kd c j place path, one-mul old, one-mul new)
    at (change (tree s) t' z.wide (Home z s d) c j q old new e z.deep (root_block z s d) (home z s d (owns_walk ok kd)))

-- ---- Put: a free frame is entered in a FREE entry (septadd, pageadd, pageaug)

module _ {z : Extent} {s : View} {l : Lists} (ok : Sound z s l) {s' : View} {d F : ℕ} (o : On z s s' d F) (c j : ℕ) (place : j < z.wide)
    (path : OnWay z s d c) (like : Others z s s' d c j)
    (free : kind s F ≡ NDA) (owned : owner s' F ≡ d) (was : shape s c j ≡ nothing) (now : Fits (shape s' c j) (kind s' F)) (at : points s' c j ≡ F)
    (wiped : kind s' F ≡ EPT → (i : ℕ) → i < z.wide → shape s' (number s' F) i ≡ nothing) where
  put_edit : (q : Found → ℕ) → Edit (tree s) (tree s') z.wide (Home z s d) c j q 0 (q (found F (kind s' F)))
  put_edit q = record {
    shape = λ n b i h k ne. (like b i k h.block ne).shape;
    points = λ n b i h k ne. (like b i k h.block ne).points;
    below = λ n b i h k sh. let m = table_mine z s d n b i h k sh in (o.step.frames (points s b i) (λ e. omega (arith, ap (kind s) e, m.kind))).number;
    closed = λ n b i h k sh. home_below z s d n b i h k sh;
    was = λ n. rw was (unfold branch weight in refl);
    now = λ n. fits_branch q (points s' c j) (walk (tree s') z.wide n (number s' (points s' c j))) now
        (λ e. walk_empty (tree s') z.wide (number s' (points s' c j)) (rw at (wiped e)) q n) ∙ ap (λ (a : ℕ). q (found a (kind s' F))) at;
    apart = λ n. rw was (unfold deeper in refl);
  }

  pub put_shift : Counted s s' (number s d) (children s (number s d) + 1) → Shift z s s' l l d [] (found F (kind s' F) ∷ [])
  unfolding weight
  put_shift own = tree_shift ok o (hands (nobodys free) (its (record { type = fits_typed now; owner = owned }))) own
      (λ q. rw o.same.number (omega (arith, own_change ok o.keyed c j place path (tree s') q 0 (q (found F (kind s' F))) (put_edit q)))) (omega arith)

-- ---- Take: the frame of an entry is given back (septremove, pageremove)

module _ {z : Extent} {s : View} {l : Lists} (ok : Sound z s l) {s' : View} {d : ℕ} (c j : ℕ) (o : On z s s' d (points s c j)) (place : j < z.wide)
    (path : OnWay z s d c) (like : Others z s s' d c j)
    (was : Fits (shape s c j) (kind s (points s c j))) (now : shape s' c j ≡ nothing)
    (empty : kind s (points s c j) ≡ EPT → (i : ℕ) → i < z.wide → shape s (number s (points s c j)) i ≡ nothing) where
  -- the tree of s', with its tables where they were in s
  t₁ : Tree
  t₁ = record { shape = shape s'; points = points s'; below = number s }

  abbrev gone : Found
  gone = found (points s c j) (kind s (points s c j))

  take_edit : (q : Found → ℕ) → Edit (tree s) t₁ z.wide (Home z s d) c j q (q gone) 0
  unfolding t₁
  take_edit q = record {
    shape = λ n b i h k ne. (like b i k h.block ne).shape;
    points = λ n b i h k ne. (like b i k h.block ne).points;
    below = λ n b i h k sh. refl;
    closed = λ n b i h k sh. home_below z s d n b i h k sh;
    was = λ n. fits_branch q (points s c j) (walk (tree s) z.wide n (number s (points s c j))) was
        (λ e. walk_empty (tree s) z.wide (number s (points s c j)) (empty e) q n);
    now = λ n. rw now (unfold branch weight in refl);
    apart = λ n. fits_deeper (reads (tree s) z.wide c j n (number s (points s c j))) was (λ e.
        reads_empty (tree s) z.wide (number s (points s c j)) (empty e) c j
        (λ q. fits_some was (subst (λ (b : ℕ). shape s b j ≡ nothing) q (empty e j place))) n);
  }

  -- without the entry the walk finds one frame fewer
  fewer : (q : Found → ℕ) → weight q (walk t₁ z.wide z.deep (root_block z s d)) + q gone ≡ weight q (tree_of z s d) + 0
  fewer q = own_change ok o.keyed c j place path t₁ q (q gone) 0 (take_edit q)

  abbrev lost : Found
  lost = found (points s c j) EPT

  Without : ℕ → ℕ → Type 0
  Without n b = times lost (walk t₁ z.wide n b) ≡ 0

  -- the frame is found no longer, so that it may lose its number
  unmet : Without z.deep (root_block z s d)
  unfolding Without
  unmet = by_eq EPT (kind s (points s c j))
      (λ e. let self = subst (λ (y : ℕ). one (same lost (found (points s c j) y)) ≡ 1) e (times_self lost) in
      omega (arith, fewer (λ y. one (same lost y)), walk_once ok o.keyed lost))
      (λ e. by_lt 0 (times lost (tree_of z s d)) (λ k. absurd (e (sym (walk_mine ok o.keyed lost k).kind)))
      (λ k. omega (arith, fewer (λ y. one (same lost y)))))

  alike₁ : Alike t₁ (tree s') z.wide Without
  unfolding t₁ Without
  alike₁ = record {
    shape = λ n b i h k. refl;
    points = λ n b i h k. refl;
    below = λ n b i h k sh. (o.step.frames (points s' b i) (λ q.
        let self = subst (λ (a : ℕ). one (same lost (found a EPT)) ≡ 1) (sym q) (times_self lost) in
        omega (arith, table_le (λ y. one (same lost y)) t₁ z.wide n b i k sh))).number;
    closed = λ n b i h k sh. omega (arith, table_le (λ y. one (same lost y)) t₁ z.wide n b i k sh);
  }

  pub take_shift : Belongs s d (points s c j) → kind s' (points s c j) ≡ NDA → {n : ℕ} → Counted s s' (number s d) n → children s (number s d) ≡ n + 1
      → Shift z s s' l l d (gone ∷ []) []
  unfolding weight
  take_shift b free own counts = tree_shift ok o (hands (its b) (nobodys free)) own
      (λ q. rw (o.same.number, same_walk t₁ (tree s') z.wide Without alike₁ z.deep (root_block z s d) unmet) (omega (arith, fewer q))) (omega arith)

-- ---- Enlist: a control page (addcx)

module _ {z : Extent} {s : View} {l : Lists} (ok : Sound z s l) {s' : View} {d F : ℕ} (o : On z s s' d F) (free : kind s F ≡ NDA) (becomes : kind s' F ≡ TDCX)
    (like : (b i : ℕ) → i < z.wide → Block z s d b → SameEntry s s' b i) (grown : listed s' (number s d) ≡ suc (listed s (number s d)))
    (kept : (i : ℕ) → i < listed s (number s d) → s'.control (number s d) i ≡ s.control (number s d) i)
    (last : s'.control (number s d) (listed s (number s d)) ≡ F) where
  en_controls : controls s' d ≡ controls s d ++ (found F (kind s' F) ∷ [])
  unfolding controls each
  en_controls = rw (o.same.number, grown, last, becomes)
      (ap (λ (l : List Found). l ++ (found F TDCX ∷ [])) (each_cong (listed s (number s d)) (λ i. found (s'.control (number s d) i) TDCX ∷ []) _
      (λ i k. rw (kept i k) refl)))

  en_finds : Balanced (finds z s' d) [] (finds z s d) (found F (kind s' F) ∷ [])
  unfolding finds
  en_finds q =
      let w = kept_walk z s s' d o.same.number (λ b i bl k. let x = like b i k bl in (x.shape, x.points))
      (λ g kg og. (o.step.frames g (λ r. omega (arith, ap (kind s) r))).number) (owns_walk ok o.keyed) in
      rw (en_controls, w) (simp weight_append (unfold weight in omega arith))

  pub enlist_shift : owner s' F ≡ d → children s' (number s d) ≡ children s (number s d) + 1 → Shift z s s' l l d [] (found F (kind s' F) ∷ [])
  unfolding weight
  enlist_shift ow n = found_shift ok o (hands (nobodys free) (its (record { type = omega arith; owner = ow }))) en_finds (omega arith)

-- ---- Quiet: no frame changes hands (keyconfig, init, finalize, block, track, unblock, flushdone, keyfree); F's epoch may

-- its life goes on, or ends with its key (keyfree): what it has is noted
pub data Ends (l : Lists) (d : ℕ) (now : List Found) (life : ℕ) : Lists → Type 0 where
  lives : (life ≡ TEARDOWN → ⊥) → Ends l d now life l
  ends : life ≡ TEARDOWN → Ends l d now life (noted l d now)

module _ {z : Extent} {s : View} {l : Lists} (ok : Sound z s l) {s' : View} {d F : ℕ} (p : Step z s s' d F (number s d)) (sd : SameFrame s s' d)
    (kd : Keyed s d) (m : Moved s s' d F [] []) (numbers : number s' F ≡ number s F)
    (shapes : (b i : ℕ) → i < z.wide → Block z s d b → (shape s' b i ≡ shape s b i) × (points s' b i ≡ points s b i))
    (own : Counted s s' (number s d) (children s (number s d))) where
  qu_finds : finds z s' d ≡ finds z s d
  unfolding finds
  qu_finds = rw (
    same_controls s s' d sd.number own.listed own.control,
    kept_walk z s s' d sd.number (λ b i bl w. shapes b i w bl) (λ g kg og. by_eq g F (λ e. rw e numbers) (λ e. (p.frames g e).number)) (owns_walk ok kd),
  ) refl

  now_held : {l' : Lists} → Ends l d (finds z s d) (life s' (number s' d)) l' → held z s' l' d ≡ finds z s d
  unfolding choose
  now_held (lives k) = held_key z s' l d (record { tdr = sd.kind ∙ kd.tdr; held = k }) ∙ qu_finds
  now_held (ends k) = held_freed z s' (noted l d (finds z s d)) d (sd.kind ∙ kd.tdr) k ∙ rw (eq-eqb d d refl) refl

  rest_same : {l' : Lists} {life : ℕ} → Ends l d (finds z s d) life l' → (e : ℕ) → (e ≡ d → ⊥) → l' e ≡ l e
  unfolding choose
  rest_same (lives k) e ne = refl
  rest_same (ends k) e ne = rw (ne_eqb e d ne) refl

  pub quiet_shift : {l' : Lists} → Ends l d (finds z s d) (life s' (number s' d)) l' → Shift z s s' l l' d [] []
  quiet_shift e = stays ok p sd kd.tdr m (λ q. rw (now_held e, held_key z s l d kd) refl) (ap (λ (a : ℕ). a + size []) own.children)
      (λ x _ _ ne. rest_same e x ne)

-- ---- New: a domain begins (create)

pub new_shift : {z : Extent} {s s' : View} {l : Lists} {F r : ℕ} → Step z s s' F F r → kind s F ≡ NDA → kind s' F ≡ TDR → number s' F ≡ r
    → Spare z s (z.tables + r) → ((i : ℕ) → i < z.wide → shape s' (z.tables + r) i ≡ nothing) → (life s' r ≡ TEARDOWN → ⊥) → listed s' r ≡ 0
    → children s' r ≡ 0 → Shift z s s' l l F [] []
unfolding finds controls each
new_shift {z} {s} {s'} {l} {F} {r} p free becomes numbered sp wiped live none bare =
    let no : kind s F ≡ TDR → ⊥ = λ q. omega arith in
    let k : Keyed s' F = record { tdr = becomes; held = λ q. live (rw numbered at q) } in
    let empty : finds z s' F ≡ [] = rw (numbered, none) (blank (tree s') z.wide (z.tables + r) wiped z.deep) in
    one_shift p (hands (nobodys free) (itself refl becomes)) (λ q. rw (held_none z s l F no, held_key z s' l F k, empty) refl)
    (rw (childs_none s F no, childs_tdr s' F becomes, numbered, bare) refl) (λ f b. becomes) (λ e ke ne q. sp.root e ke (omega arith)) (λ e _ _ _. refl)

-- ---- what is left of a domain whose key is freed

-- frame f isn't listed: there is nothing to strike out
without_absent : (f : ℕ) (l : List Found) → ((x : Found) → 1 ≤ times x l → x.frame ≡ f → ⊥) → without f l ≡ l
unfolding without weight choose
without_absent f [] h = refl
without_absent f (x ∷ l) h =
    rw (ne_eqb x.frame f (h x (omega (arith, ap one (same_refl x)))))
    (ap (λ (m : List Found). x ∷ m) (without_absent f l (λ y k. h y (omega arith))))

weight_without : (q : Found → ℕ) (f : ℕ) (l : List Found) → weight q l ≡ weight q (without f l) + weight (λ y. one (eqb y.frame f) * q y) l
unfolding without weight choose
weight_without q f [] = refl
weight_without q f (y ∷ l) = by_eq y.frame f
    (λ e. rw (eq-eqb y.frame f e, one-mul (q y)) (omega (arith, weight_without q f l)))
    (λ e. rw (ne_eqb y.frame f e, zero-mul (q y)) (omega (arith, weight_without q f l)))

weight_times : (x : Found) (n : ℕ) (l : List Found) → weight (λ y. one (same x y) * n) l ≡ times x l * n
unfolding weight
weight_times x n [] = sym (zero-mul n)
weight_times x n (y ∷ l) = rw (add-mul (one (same x y)) (times x l) n) (omega (arith, weight_times x n l))

module _ {z : Extent} {s : View} {l : Lists} (ok : Sound z s l) where
  has : (d : ℕ) (x : Found) → 1 ≤ times x (held z s l d) → Mine s d x
  has d x k = mine_one s d x (rw (← (holds ok d x)) k)

  -- F stands once in what d has
  struck : (d F : ℕ) → Belongs s d F → (q : Found → ℕ) → weight q (held z s l d) ≡ weight q (without F (held z s l d)) + q (found F (kind s F))
  struck d F b q =
      let h = held z s l d in
      let x = found F (kind s F) in
      let same_at : weight (λ y. one (eqb y.frame F) * q y) h ≡ weight (λ y. one (same x y) * q x) h = weight_cong _ _ h (λ y k. by_eq y.frame F
      (λ e. let u : y.type ≡ kind s F = sym (has d y k).kind ∙ ap (kind s) e in
      rw (eq-eqb y.frame F e, eq-eqb F y.frame (sym e), eq-eqb (kind s F) y.type (sym u))
      (ap (λ (n : ℕ). 1 * n) (ap₂ (λ (a b : ℕ). q (found a b)) e u)))
      (λ e. rw (ne_eqb y.frame F e, ne_eqb F y.frame (λ r. e (sym r)), zero-mul (q y), zero-mul (q x)) refl)) in
      omega (arith, weight_without q F h, weight_times x (q x) h, ap (λ (n : ℕ). n * q x) (holds ok d x ∙ mine_is (belongs_mine b)), one-mul (q x))

  -- a frame that is another's, or nobody's, stands in no list of what e has left
  unlisted : (F d : ℕ) → ((e : ℕ) → Belongs s e F → e ≡ d) → Rest s l (λ x. without F (l x)) d
  unlisted F d w e ke lf ne = without_absent F (l e) (λ x k q. ne (w e (rw q at (mine_belongs (has e x (rw (held_freed z s l e ke lf) k))))))

-- ---- Reclaim: a frame of a domain in teardown is given back

pub reclaim_shift : {z : Extent} {s s' : View} {l : Lists} {d F : ℕ} → Sound z s l → Step z s s' d F (number s d) → SameFrame s s' d → kind s d ≡ TDR
    → life s (number s d) ≡ TEARDOWN → life s' (number s d) ≡ TEARDOWN → Belongs s d F → kind s' F ≡ NDA
    → children s (number s d) ≡ children s' (number s d) + 1 → Shift z s s' l (λ e. without F (l e)) d (found F (kind s F) ∷ []) []
unfolding weight
reclaim_shift {z} {s} {s'} {l} {d} {F} ok p sd kd dead dead' b free n = stays ok p sd kd (hands (its b) (nobodys free))
    (λ q. rw (held_freed z s' (λ e. without F (l e)) d (sd.kind ∙ kd) (ap (life s') sd.number ∙ dead'), ← (held_freed z s l d kd dead))
    (omega (arith, struck ok d F b q)))
    (omega arith) (unlisted ok F d (λ e b'. sym b'.owner ∙ b.owner))

-- ---- Retire: a domain with no frames left ends (reclaim of a TDR)

size_nil : (l : List Found) → size l ≡ 0 → l ≡ []
unfolding weight
size_nil [] e = refl
size_nil (x ∷ l) e = absurd (omega arith)

pub retire_shift : {z : Extent} {s s' : View} {l : Lists} {d : ℕ} → Sound z s l → Step z s s' d d (number s d) → kind s d ≡ TDR → children s (number s d) ≡ 0
    → kind s' d ≡ NDA → Shift z s s' l (λ e. without d (l e)) d [] []
unfolding weight
retire_shift {z} {s} {s'} {l} {d} ok p kd bare free =
    let ended : kind s' d ≡ TDR → ⊥ = λ q. omega arith in
    let empty : held z s l d ≡ [] = size_nil (held z s l d) (holds_size ok d ∙ childs_tdr s d kd ∙ bare) in
    let m : Moved s s' d d [] [] = hands (itself refl kd) (nobodys free) in
    one_shift p m (λ q. rw (held_none z s' (λ e. without d (l e)) d ended, empty) refl) (rw (childs_none s' d ended, childs_tdr s d kd, bare) refl)
    (λ f b. let x = found f (kind s' f) in absurd (omega (arith, mine_is (belongs_mine b), one_recorded p m x, holds ok d x, ap (times x) empty)))
    (λ e ke ne q. ne (ok.unique TDR e d a_record ke kd q)) (unlisted ok d d (λ e b. absurd (omega (arith, b.type))))
