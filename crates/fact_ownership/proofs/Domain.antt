-- What holds of one domain's own frames: which blocks its walk meets, that an entry on the way is read once, and that a domain whose things stay
-- keeps its walk and its frames.
use Rattle.base_rules.specs.Basics.{◌≡◌, List, [], ◌∷◌, ℕ, suc, ◌≤◌, ◌<◌, eqb, ltb}
use Rattle.base_rules.proofs.Facts.{refl, sym, ap, ◌∙◌, arith, eq-eqb, ne_eqb, lt-ltb, le-ltb, by_eq, by_lt}
use Rattle.book_ledger.specs.{Codes.TDR, Codes.TDCX, Codes.EPT, Codes.TEARDOWN, declared.words.Frame.Frame, declared.words.Domain.Domain, declared.words.Entry.Entry}
use Rattle.fact_keeps.specs.Views.{View, kind, owner, number, listed, children}
use Rattle.fact_ownership.specs.Owned.{Found, found, table, walk, times, same, one, both, Extent, root_block, shape_of, tree, controls, tree_of, finds}
use Rattle.fact_ownership.specs.Owned.{mine, Owns, Keyed, Block, root, below, Belongs, Besides, shape, points}
use Rattle.fact_ownership.proofs.Sums.{one_le, size, size_length, weight_append, each_cong}
use Rattle.fact_ownership.proofs.Walk.{table_le, times_self, same_walk}

-- ---- what two states have alike, taken apart

pub record SameFrame (s s' : View) (f : ℕ) : Type 0 where
  pub frame : s'.frame f ≡ s.frame f
  pub kind : kind s' f ≡ kind s f
  pub owner : owner s' f ≡ owner s f
  pub number : number s' f ≡ number s f

pub same_frame : (s s' : View) (f : ℕ) → s'.frame f ≡ s.frame f → SameFrame s s' f
same_frame s s' f e = record { frame = e; kind = cc; owner = cc; number = cc }

pub record SameEntry (s s' : View) (b i : ℕ) : Type 0 where
  pub entry : s'.entry b i ≡ s.entry b i
  pub shape : shape s' b i ≡ shape s b i
  pub points : points s' b i ≡ points s b i

pub same_entry : (s s' : View) (b i : ℕ) → s'.entry b i ≡ s.entry b i → SameEntry s s' b i
same_entry s s' b i e = record { entry = e; shape = ap (λ (x : Entry). shape_of x.state) e; points = ap (λ (x : Entry). x.frame.0) e }

pub record SameRecord (s s' : View) (r : ℕ) : Type 0 where
  pub domain : s'.domain r ≡ s.domain r
  pub control : (i : ℕ) → s'.control r i ≡ s.control r i

-- ---- `mine` as a fact

pub record Mine (s : View) (d : ℕ) (x : Found) : Type 0 where
  pub typed : 1 < x.type
  pub kind : kind s x.frame ≡ x.type
  pub owner : owner s x.frame ≡ d

pub mine_is : {s : View} {d : ℕ} {x : Found} → Mine s d x → mine s d x ≡ 1
mine_is {x = x} m = rw (lt-ltb 1 x.type m.typed, eq-eqb _ _ m.kind, eq-eqb _ _ m.owner) refl

pub mine_one : (s : View) (d : ℕ) (x : Found) → 1 ≤ mine s d x → Mine s d x
mine_one s d x h = by_lt 1 x.type
    (λ a. by_eq (kind s x.frame) x.type
    (λ b. by_eq (owner s x.frame) d (λ c. record { typed = a; kind = b; owner = c })
    (λ c. absurd (omega (arith, rw (lt-ltb, eq-eqb _ _ b, ne_eqb _ _ c) at h))))
    (λ b. absurd (omega (arith, rw (lt-ltb, ne_eqb _ _ b) at h))))
    (λ a. absurd (omega (arith, rw le-ltb at h)))

pub mine_le : (s : View) (d : ℕ) (x : Found) → mine s d x ≤ 1
mine_le s d x = one_le (both (ltb 1 x.type) (both (eqb (kind s x.frame) x.type) (eqb (owner s x.frame) d)))

pub mine_not : (s : View) (d : ℕ) (x : Found) → (Mine s d x → ⊥) → mine s d x ≡ 0
mine_not s d x k = by_lt 0 (mine s d x) (λ h. absurd (k (mine_one s d x h))) (λ h. omega arith)

pub mine_choose : (s s' : View) (d d' : ℕ) (x : Found) → (Mine s d x → Mine s' d' x) → (Mine s' d' x → Mine s d x) → mine s' d' x ≡ mine s d x
mine_choose s s' d d' x f g = by_lt 0 (mine s d x)
    (λ h. let m = mine_one s d x h in mine_is (f m) ∙ sym (mine_is m))
    (λ h. mine_not s' d' x (λ m. omega (arith, mine_is (g m))) ∙ omega arith)

-- what is found as d's belongs to d, and the other way round
pub mine_belongs : {s : View} {d : ℕ} {x : Found} → Mine s d x → Belongs s d x.frame
mine_belongs m = record { type = rw m.kind m.typed; owner = m.owner }

pub belongs_mine : {s : View} {d f : ℕ} → Belongs s d f → Mine s d (found f (kind s f))
belongs_mine b = record { typed = b.type; kind = refl; owner = b.owner }

-- the child count, as a weight
pub owns_size : {s : View} {d : ℕ} {l : List Found} → Owns s d l → size l ≡ children s (number s d)
owns_size {l = l} o = size_length l ∙ o.count

-- ---- the blocks that a domain's walk meets

module _ (z : Extent) (s : View) (d : ℕ) where
  -- b is a block of d's, and all that the walk from it finds is d's
  pub record Home (n b : ℕ) : Type 0 where
    pub block : Block z s d b
    pub all : (x : Found) → 1 ≤ times x (walk (tree s) z.wide n b) → Mine s d x

  pub home : Owns s d (finds z s d) → Home z.deep (root_block z s d)
  unfolding finds
  home o = record {
    block = root refl;
    all = λ x h. mine_one s d x (omega (arith, o.once x, h, weight_append (λ y. one (same x y)) (controls s d) (tree_of z s d)));
  }

  pub table_mine : (n b i : ℕ) → Home (suc n) b → i < z.wide → shape s b i ≡ table → Mine s d (found (points s b i) EPT)
  table_mine n b i h k e = h.all (found (points s b i) EPT)
      (omega (arith, table_le (λ y. one (same (found (points s b i) EPT) y)) (tree s) z.wide n b i k e, times_self (found (points s b i) EPT)))

  pub home_below : (n b i : ℕ) → Home (suc n) b → i < z.wide → shape s b i ≡ table → Home n (number s (points s b i))
  home_below n b i h k e = let m = table_mine n b i h k e in record {
    block = below (points s b i) m.kind m.owner refl;
    all = λ x l. h.all x (omega (arith, l, table_le (λ y. one (same x y)) (tree s) z.wide n b i k e));
  }

-- ---- a domain left alone

-- the shapes and frames in d's blocks stay, and so do its tables' numbers: it has the same walk
pub kept_walk : (z : Extent) (s s' : View) (d : ℕ) → number s' d ≡ number s d
    → ((b i : ℕ) → Block z s d b → i < z.wide → (shape s' b i ≡ shape s b i) × (points s' b i ≡ points s b i))
    → ((g : ℕ) → kind s g ≡ EPT → owner s g ≡ d → number s' g ≡ number s g) → Owns s d (finds z s d) → tree_of z s' d ≡ tree_of z s d
kept_walk z s s' d e en nu o = rw e
    (same_walk (tree s) (tree s') z.wide (Home z s d)
    (record {
      shape = λ n b i h k. (en b i h.block k).0;
      points = λ n b i h k. (en b i h.block k).1;
      below = λ n b i h k sh. let m = table_mine z s d n b i h k sh in nu (points s b i) m.kind m.owner;
      closed = λ n b i h k sh. home_below z s d n b i h k sh;
    })
    z.deep (root_block z s d) (home z s d o))

-- so do its listed control pages
pub same_controls : (s s' : View) (d : ℕ) → number s' d ≡ number s d → listed s' (number s d) ≡ listed s (number s d)
    → ((i : ℕ) → s'.control (number s d) i ≡ s.control (number s d) i) → controls s' d ≡ controls s d
unfolding controls
same_controls s s' d e n c = rw (e, n) (each_cong (listed s (number s d)) (λ i. found (s'.control (number s d) i) TDCX ∷ []) _ (λ i k. rw (c i) refl))

-- what a change of a record's scalars leaves, if its domain has what it had: how many pages and children, and whether its key is freed
pub record Leaves (f : Domain → Domain) : Type 0 where
  pub listed : (d : Domain) → (f d).listed ≡ d.listed
  pub children : (d : Domain) → (f d).children ≡ d.children
  pub freed : (d : Domain) → d.life ≡ TEARDOWN → (f d).life ≡ TEARDOWN
  pub keyed : (d : Domain) → (f d).life ≡ TEARDOWN → d.life ≡ TEARDOWN

pub leaves_all : Leaves (λ d. d)
leaves_all = record { listed = λ d. refl; children = λ d. refl; freed = λ d q. q; keyed = λ d q. q }

module _ {f : Domain → Domain} (lf : Leaves f) (z : Extent) (s s' : View) (e : ℕ) (u : Besides f z s s' e) where
  u_tdr : SameFrame s s' e
  u_tdr = same_frame s s' e u.tdr

  u_mine : (x : Found) → mine s' e x ≡ mine s e x
  u_mine x = mine_choose s s' e e x
      (λ m. let k = same_frame s s' x.frame (u.kept x.frame (mine_belongs m)) in
      record { typed = m.typed; kind = k.kind ∙ m.kind; owner = k.owner ∙ m.owner })
      (λ m. let b = u.gained x.frame (mine_belongs m) in let k = same_frame s s' x.frame (u.kept x.frame b) in
      record { typed = m.typed; kind = sym k.kind ∙ m.kind; owner = b.owner })

  pub was_keyed : kind s e ≡ TDR → Keyed s' e → Keyed s e
  was_keyed ke k = record {
    tdr = ke;
    held = λ q. k.held (rw u_tdr.number (ap (λ (x : Domain). x.life) u.record' ∙ lf.freed _ q));
  }

  pub same_owns : (l : List Found) → Owns s e l → Owns s' e l
  same_owns l o = record {
    once = λ x. o.once x ∙ sym (u_mine x);
    count = o.count ∙ sym (rw u_tdr.number (ap (λ (x : Domain). x.children) u.record' ∙ lf.children _));
  }

  pub same_finds : Owns s e (finds z s e) → finds z s' e ≡ finds z s e
  unfolding finds
  same_finds o =
      let w = kept_walk z s s' e u_tdr.number (λ b i h k. let q = same_entry s s' b i (u.tree b i h k) in (q.shape, q.points))
      (λ g h b. ap (λ (x : Frame). x.number) (u.kept g (record { type = rw h (omega arith); owner = b }))) o in
      rw (same_controls s s' e u_tdr.number (ap (λ (x : Domain). x.listed) u.record' ∙ lf.listed _) u.pages, w) refl
