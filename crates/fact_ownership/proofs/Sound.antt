-- What every state after a fresh start has, from which demand 3 follows.
use Rattle.base_rules.specs.Basics.{◌≡◌, true, false, List, [], ℕ, ◌≤◌, ◌<◌, eqb, choose}
use Rattle.base_rules.proofs.Facts.{refl, sym, ap, ◌∙◌, subst, true≢false, inl, inr, le_trans, le_antisymm, arith, eq-eqb, ne_eqb, by_eq}
use Rattle.book_ledger.specs.{Codes.TDR, Codes.EPT, Codes.TEARDOWN, declared.words.Domain.Domain}
use Rattle.fact_keeps.specs.Views.{View, kind, owner, number, life, children}
use Rattle.fact_ownership.specs.Owned.{Found, found, weight, times, same, one, both, Extent, root_block, tree, controls, tree_of, finds, mine, Owns, Keyed}
use Rattle.fact_ownership.specs.{Owned.Block, Owned.root, Owned.below, Owned.Besides, Always.Numbered, Always.a_record, Always.a_table, Always.block_of}
use Rattle.fact_ownership.specs.Reached.{Lists}
use Rattle.fact_ownership.proofs.Sums.{by_pair, size, weight_append, weight_mono, weight_none, one_le}
use Rattle.fact_ownership.proofs.Walk.{reads, leads, elsewhere, reads_bound, Path·to, reads_path, path_last}
use Rattle.fact_ownership.proofs.Domain.{Mine, mine_le, mine_not, mine_belongs, home, owns_size, same_frame, Leaves, same_finds}

-- What domain d has: what is found while it holds its key, then what is left; nothing where there is no such domain. And its child count.
pub held : Extent → View → Lists → Lists
held z s l d = choose (eqb (kind s d) TDR) (choose (eqb (life s (number s d)) TEARDOWN) (l d) (finds z s d)) []

pub childs : View → ℕ → ℕ
childs s d = choose (eqb (kind s d) TDR) (children s (number s d)) 0

module _ (z : Extent) (s : View) (l : Lists) (d : ℕ) where
  pub held_key : Keyed s d → held z s l d ≡ finds z s d
  unfolding held choose
  held_key k = rw (eq-eqb (kind s d) TDR k.tdr, ne_eqb (life s (number s d)) TEARDOWN k.held) refl

  pub held_freed : kind s d ≡ TDR → life s (number s d) ≡ TEARDOWN → held z s l d ≡ l d
  unfolding held choose
  held_freed k f = rw (eq-eqb (kind s d) TDR k, eq-eqb (life s (number s d)) TEARDOWN f) refl

  pub held_none : (kind s d ≡ TDR → ⊥) → held z s l d ≡ []
  unfolding held choose
  held_none k = rw (ne_eqb (kind s d) TDR k) refl

pub childs_tdr : (s : View) (d : ℕ) → kind s d ≡ TDR → childs s d ≡ children s (number s d)
unfolding childs choose
childs_tdr s d k = rw (eq-eqb (kind s d) TDR k) refl

pub childs_none : (s : View) (d : ℕ) → (kind s d ≡ TDR → ⊥) → childs s d ≡ 0
unfolding childs choose
childs_none s d k = rw (ne_eqb (kind s d) TDR k) refl

pub record Sound (z : Extent) (s : View) (l : Lists) : Type 0 where
  pub owns : (d : ℕ) → kind s d ≡ TDR → Owns s d (held z s l d)
  -- no two TDRs share a record, no two EPTs a table, and each is in use
  pub unique : (k f g : ℕ) → Numbered k → kind s f ≡ k → kind s g ≡ k → number s f ≡ number s g → f ≡ g
  pub used : (k f : ℕ) (nb : Numbered k) → kind s f ≡ k → s.used (block_of z nb (number s f)) ≡ true
  pub tables : (g : ℕ) → kind s g ≡ EPT → number s g < z.tables
  pub owners : (f : ℕ) → TDR < kind s f → kind s (owner s f) ≡ TDR

-- block c is on the way of d's walk
abbrev pub OnWay : Extent → View → ℕ → ℕ → Type 0
OnWay z s d c = Path·to (tree s) z.wide c z.deep (root_block z s d)

module _ {z : Extent} {s : View} {l : Lists} (ok : Sound z s l) {d : ℕ} (kd : Keyed s d) where
  pub owns_walk : Owns s d (finds z s d)
  owns_walk = subst (λ (x : List Found). Owns s d x) (held_key z s l d kd) (ok.owns d kd.tdr)

  pub walk_once : (x : Found) → times x (tree_of z s d) ≤ 1
  unfolding finds
  walk_once x = omega (arith, owns_walk.once x, weight_append (λ y. one (same x y)) (controls s d) (tree_of z s d), mine_le s d x)

  pub walk_mine : (x : Found) → 1 ≤ times x (tree_of z s d) → Mine s d x
  walk_mine = (home z s d owns_walk).all

  leads_le : (c g : ℕ) → kind s g ≡ EPT → number s g ≡ c → (x : Found) → Mine s d x → leads (tree s) c x ≤ one (same (found g EPT) x)
  leads_le c g kg e x m = by_pair x.type EPT (number s x.frame) c
      (λ h. let q = ok.unique EPT x.frame g a_table (m.kind ∙ h.0) kg (h.1 ∙ sym e) in
      rw (eq-eqb g x.frame (sym q), eq-eqb EPT x.type (sym h.0)) (one_le (both (eqb x.type EPT) (eqb (number s x.frame) c))))
      (λ ne. rw (elsewhere EPT c x.type (number s x.frame) ne) (omega arith))

  -- an entry on the way of the domain's own walk is read once
  pub reads_one : (c j : ℕ) → j < z.wide → OnWay z s d c → reads (tree s) z.wide c j z.deep (root_block z s d) ≡ 1
  reads_one c j jw p = le_antisymm (le_trans (reads_bound (tree s) z.wide c j z.deep (root_block z s d)) (elim (path_last (tree s) z.wide c p) [
    | inl e ↦ let none = weight_none (leads (tree s) c) (tree_of z s d) (λ x k.
        rw (elsewhere EPT c x.type (number s x.frame) (λ h. omega (arith, h.1, ok.tables x.frame ((walk_mine x k).kind ∙ h.0)))) refl) in
        omega (arith, one_le (eqb (root_block z s d) c))
    | inr r ↦ let g = found r.0 EPT in let kg = (walk_mine g r.1).kind in
        let le = weight_mono (leads (tree s) c) (λ y. one (same g y)) (tree_of z s d) (λ x k. leads_le c r.0 kg r.2 x (walk_mine x k)) in
        rw (ne_eqb (root_block z s d) c (λ q. omega (arith, ok.tables r.0 kg, r.2))) (omega (arith, walk_once g))
  ])) (reads_path (tree s) z.wide c j jw p)

  -- the block that a call's walk ends in is the domain's own
  pub path_block : (c : ℕ) → OnWay z s d c → Block z s d c
  path_block c p = elim (path_last (tree s) z.wide c p) [
    | inl e ↦ root e
    | inr r ↦ let m = walk_mine (found r.0 EPT) r.1 in below r.0 m.kind m.owner (sym r.2)
  ]

-- block b is in nobody's tree
pub record Spare (z : Extent) (s : View) (b : ℕ) : Type 0 where
  pub root : (e : ℕ) → kind s e ≡ TDR → b ≡ root_block z s e → ⊥
  pub below : (g : ℕ) → kind s g ≡ EPT → b ≡ number s g → ⊥

pub not_spare : {z : Extent} {s : View} {d b : ℕ} → kind s d ≡ TDR → Spare z s b → Block z s d b → ⊥
not_spare k sp (root q) = sp.root _ k q
not_spare k sp (below g kg _ q) = sp.below g kg q

module _ {z : Extent} {s : View} {l : Lists} (ok : Sound z s l) where
  -- so is one that isn't in use
  pub unused_spare : (b : ℕ) → s.used b ≡ false → Spare z s b
  unused_spare b u = record {
    root = λ e k q. true≢false (sym (ok.used TDR e a_record k) ∙ ap s.used (sym q) ∙ u);
    below = λ g k q. true≢false (sym (ok.used EPT g a_table k) ∙ ap s.used (sym q) ∙ u);
  }

  -- two domains share no block
  pub apart : (d e b : ℕ) → kind s d ≡ TDR → kind s e ≡ TDR → Block z s d b → Block z s e b → d ≡ e
  apart d e b kd ke (root p) (root q) = ok.unique TDR d e a_record kd ke (omega arith)
  apart d e b kd ke (root p) (below g k o q) = absurd (omega (arith, ok.tables g k))
  apart d e b kd ke (below g k o p) (root q) = absurd (omega (arith, ok.tables g k))
  apart d e b kd ke (below g k o p) (below g' k' o' q) = sym o ∙ ap (owner s) (ok.unique EPT g g' a_table k k' (omega arith)) ∙ o'

  -- a frame that is no TDR owns nothing
  pub no_orphans : (d : ℕ) → (kind s d ≡ TDR → ⊥) → (x : Found) → mine s d x ≡ 0
  no_orphans d k x = mine_not s d x (λ m. k (ap (kind s) (sym m.owner) ∙ ok.owners x.frame (mine_belongs m).type))

  -- what d has is d's, whether or not there is such a domain
  pub holds : (d : ℕ) (x : Found) → times x (held z s l d) ≡ mine s d x
  unfolding weight
  holds d x = by_eq (kind s d) TDR (λ k. (ok.owns d k).once x) (λ k. rw (held_none z s l d k) (sym (no_orphans d k x)))

  pub holds_size : (d : ℕ) → size (held z s l d) ≡ childs s d
  unfolding weight
  holds_size d = by_eq (kind s d) TDR (λ k. owns_size (ok.owns d k) ∙ sym (childs_tdr s d k)) (λ k. rw (held_none z s l d k, childs_none s d k) refl)

-- a type of frames that have neither record nor table
abbrev pub Bare : ℕ → Type 0
Bare n = (n ≡ TDR → ⊥) × (n ≡ EPT → ⊥)

pub not_bare : {k n : ℕ} → Numbered k → n ≡ k → Bare n → ⊥
not_bare a_record q b = b.0 q
not_bare a_table q b = b.1 q

-- a domain of which nothing moved but scalars that leave it what it had: held before and after
pub held_besides : {f : Domain → Domain} → Leaves f → {z : Extent} {s : View} {l : Lists} → Sound z s l → {s' : View} (l' : Lists) (e : ℕ)
    → Besides f z s s' e → kind s e ≡ TDR → (life s (number s e) ≡ TEARDOWN → l' e ≡ l e) → held z s l e ≡ held z s' l' e
held_besides {f} lf {z} {s} {l} ok {s'} l' e u ke rest =
    let sf = same_frame s s' e u.tdr in
    let now : life s' (number s' e) ≡ (f (s.domain (number s e))).life = ap (life s') sf.number ∙ ap (λ (x : Domain). x.life) u.record' in
    by_eq (life s (number s e)) TEARDOWN
    (λ x. held_freed z s l e ke x ∙ sym (rest x) ∙ sym (held_freed z s' l' e (sf.kind ∙ ke) (now ∙ lf.freed _ x)))
    (λ x. let k : Keyed s e = record { tdr = ke; held = x } in
    held_key z s l e k ∙ sym (same_finds lf z s s' e u (owns_walk ok k))
    ∙ sym (held_key z s' l' e (record { tdr = sf.kind ∙ ke; held = λ y. x (lf.keyed _ (sym now ∙ y)) })))
