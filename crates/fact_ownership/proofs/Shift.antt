-- A change on one domain: found frames leave it and join it, and every other domain is left alone. One relation for every edit, and one theorem:
-- it keeps a state sound.
use Rattle.base_rules.specs.Basics.{◌≡◌, true, List, ℕ, ◌+◌, ◌<◌}
use Rattle.base_rules.proofs.Facts.{refl, sym, ◌∙◌, subst, arith, by_eq}
use Rattle.book_ledger.specs.{Codes.NDA, Codes.TDR, Codes.EPT, Codes.TEARDOWN}
use Rattle.fact_keeps.specs.Views.{View, kind, owner, number, life}
use Rattle.fact_ownership.specs.Owned.{Found, weight, times, same, one, Extent, mine, Owns, Block, root, below, Belongs, Untouched}
use Rattle.fact_ownership.specs.{Reached.Lists, Always.Numbered, Always.a_record, Always.a_table, Always.block_of}
use Rattle.fact_ownership.proofs.Sums.{size, size_length}
use Rattle.fact_ownership.proofs.Domain.{SameFrame, SameEntry, SameRecord, leaves_all, same_owns}
use Rattle.fact_ownership.proofs.Sound.{held, held_besides, childs, childs_tdr, Sound, Spare, not_spare, apart, holds, holds_size}

-- ---- the relation

-- a frame that a change on d may touch: d itself, one of d's, or a free one
pub data Whose (s : View) (d f : ℕ) : Type 0 where
  itself : f ≡ d → kind s f ≡ TDR → Whose s d f
  its : Belongs s d f → Whose s d f
  nobodys : kind s f ≡ NDA → Whose s d f

-- a frame stays as it is, or is d's to change before and after
pub data Moves (s s' : View) (d f : ℕ) : Type 0 where
  keeps : SameFrame s s' f → Moves s s' d f
  moves : Whose s d f → Whose s' d f → Moves s s' d f

-- an entry stays as it is, or is in d's tree, or was in nobody's
pub data Spot (z : Extent) (s s' : View) (d b i : ℕ) : Type 0 where
  same_spot : SameEntry s s' b i → Spot z s s' d b i
  own_spot : kind s d ≡ TDR → Block z s d b → Spot z s s' d b i
  spare_spot : Spare z s b → Spot z s s' d b i

-- a TDR's record and an EPT's table: the one it had, still in use; or one that no other has
pub data Numbering (z : Extent) (s s' : View) (f : ℕ) {k : ℕ} (nb : Numbered k) : Type 0 where
  as_before : kind s f ≡ k → number s' f ≡ number s f → s'.used (block_of z nb (number s f)) ≡ true → Numbering z s s' f nb
  afresh : s'.used (block_of z nb (number s' f)) ≡ true → ((g : ℕ) → kind s' g ≡ k → number s' g ≡ number s' f → g ≡ f) → (k ≡ EPT → number s' f < z.tables)
      → Numbering z s s' f nb

-- a list loses `gone` and gets `come`, by any weight
abbrev pub Balanced : List Found → List Found → List Found → List Found → Type 0
Balanced now gone was come = (q : Found → ℕ) → weight q now + weight q gone ≡ weight q was + weight q come

-- what is left of other domains stays
abbrev pub Rest : View → Lists → Lists → ℕ → Type 0
Rest s l l' d = (e : ℕ) → kind s e ≡ TDR → life s (number s e) ≡ TEARDOWN → (e ≡ d → ⊥) → l' e ≡ l e

-- `gone` leave domain d and `come` join it, in any number: so in the frames' records, in what d has by any weight, and in its child count.
-- l and l' are what is left of the domains whose keys are freed.
pub record Shift (z : Extent) (s s' : View) (l l' : Lists) (d : ℕ) (gone come : List Found) : Type 0 where
  pub frames : (f : ℕ) → Moves s s' d f
  pub recorded : (x : Found) → mine s' d x + times x gone ≡ mine s d x + times x come
  pub finds : Balanced (held z s' l' d) gone (held z s l d) come
  pub count : childs s' d + size gone ≡ childs s d + size come
  pub rooted : (f : ℕ) → Belongs s' d f → kind s' d ≡ TDR
  pub numbers : (k f : ℕ) (nb : Numbered k) → kind s' f ≡ k → Numbering z s s' f nb
  pub records : (e : ℕ) → kind s e ≡ TDR → (e ≡ d → ⊥) → SameRecord s s' (number s e)
  pub spots : (b i : ℕ) → i < z.wide → Spot z s s' d b i
  pub rest : Rest s l l' d

-- ---- the theorem

module _ {s : View} {d f : ℕ} where
  whose_tdr : Whose s d f → kind s f ≡ TDR → f ≡ d
  whose_tdr (itself e k) q = e
  whose_tdr (its b) q = absurd (omega (arith, b.type))
  whose_tdr (nobodys k) q = absurd (omega arith)

  whose_owner : Whose s d f → {e : ℕ} → Belongs s e f → e ≡ d
  whose_owner (itself _ k) b = absurd (omega (arith, b.type))
  whose_owner (its c) b = sym b.owner ∙ c.owner
  whose_owner (nobodys k) b = absurd (omega (arith, b.type))

module _ {z : Extent} {s : View} {l : Lists} (ok : Sound z s l) {s' : View} {l' : Lists} {d : ℕ} {gone come : List Found}
    (p : Shift z s s' l l' d gone come) where
  kept_tdr : (e : ℕ) → kind s e ≡ TDR → (e ≡ d → ⊥) → SameFrame s s' e
  kept_tdr e k ne = elim (p.frames e) [ keeps q ↦ q | moves a _ ↦ absurd (ne (whose_tdr a k)) ]

  pub was_tdr : (e : ℕ) → kind s' e ≡ TDR → (e ≡ d → ⊥) → kind s e ≡ TDR
  was_tdr e k ne = elim (p.frames e) [ keeps q ↦ sym q.kind ∙ k | moves _ b ↦ absurd (ne (whose_tdr b k)) ]

  -- a record or table that a frame keeps was in use, and is
  still : (k f : ℕ) (nb : Numbered k) → kind s f ≡ k → SameFrame s s' f → s'.used (block_of z nb (number s f)) ≡ s.used (block_of z nb (number s f))
  still k f nb kf q =
      let u : s'.used (block_of z nb (number s f)) ≡ true =
      elim (p.numbers k f nb (q.kind ∙ kf)) [ as_before _ _ u ↦ u | afresh u _ _ ↦ rw q.number at u ] in
      u ∙ sym (ok.used k f nb kf)

  pub untouched : (e : ℕ) → kind s e ≡ TDR → (e ≡ d → ⊥) → Untouched z s s' e
  untouched e ke ne = record {
    tdr = (kept_tdr e ke ne).frame;
    record' = (p.records e ke ne).domain;
    pages = (p.records e ke ne).control;
    kept = λ f b. (stays f b).frame;
    gained = λ f b. elim (p.frames f) [
      | keeps q ↦ record { type = rw q.kind at b.type; owner = sym q.owner ∙ b.owner }
      | moves _ c ↦ absurd (ne (whose_owner c b))
    ];
    tree = λ b i k w. elim (p.spots b i w) [
      | same_spot q ↦ q.entry
      | own_spot kd q ↦ absurd (ne (apart ok e d b ke kd k q))
      | spare_spot q ↦ absurd (not_spare ke q k)
    ];
    used = λ b k. in_use_fact b k;
  }
    where
      stays : (f : ℕ) → Belongs s e f → SameFrame s s' f
      stays f b = elim (p.frames f) [ keeps q ↦ q | moves a _ ↦ absurd (ne (whose_owner a b)) ]

      in_use_fact : (b : ℕ) → Block z s e b → s'.used b ≡ s.used b
      in_use_fact b (root q) = rw q (still TDR e a_record ke (kept_tdr e ke ne))
      in_use_fact b (below g k o q) = rw q (still EPT g a_table k (stays g (record { type = omega arith; owner = o })))

  -- another domain has what it had
  held_same : (e : ℕ) → kind s e ≡ TDR → (e ≡ d → ⊥) → held z s l e ≡ held z s' l' e
  held_same e ke ne = held_besides leaves_all ok l' e (untouched e ke ne) ke (λ x. p.rest e ke x ne)

  pub shifted : Sound z s' l'
  shifted = record {
    owns = λ e k. by_eq e d
        (λ q. rw q (record {
          once = λ x. omega (arith, p.finds (λ y. one (same x y)), holds ok d x, p.recorded x);
          count = omega (arith, size_length (held z s' l' d), p.finds (λ y. 1), holds_size ok d, p.count, childs_tdr s' d (rw q at k));
        }))
        (λ q. let ke = was_tdr e k q in subst (λ (x : List Found). Owns s' e x) (held_same e ke q)
        (same_owns leaves_all z s s' e (untouched e ke q) (held z s l e) (ok.owns e ke)));
    unique = λ k f g nb kf kg q. elim (p.numbers k f nb kf) [
      | as_before a b _ ↦ elim (p.numbers k g nb kg) [ as_before c e _ ↦ ok.unique k f g nb a c (sym b ∙ q ∙ e) | afresh _ h _ ↦ h f kf q ]
      | afresh _ h _ ↦ sym (h g kg (sym q))
    ];
    used = λ k f nb kf. elim (p.numbers k f nb kf) [ as_before a b u ↦ rw b u | afresh u _ _ ↦ u ];
    tables = λ g k. elim (p.numbers EPT g a_table k) [ as_before a b u ↦ rw b (ok.tables g a) | afresh _ _ t ↦ t refl ];
    owners = λ f k. owners' f (record { type = k; owner = refl }) (p.frames f);
  }
    where
      rooted : (f : ℕ) → Belongs s' (owner s' f) f → owner s' f ≡ d → kind s' (owner s' f) ≡ TDR
      rooted f b e = rw e (p.rooted f (subst (λ (x : ℕ). Belongs s' x f) e b))

      owners' : (f : ℕ) → Belongs s' (owner s' f) f → Moves s s' d f → kind s' (owner s' f) ≡ TDR
      owners' f b (moves _ c) = rooted f b (whose_owner c b)
      owners' f b (keeps q) =
          let ko : kind s (owner s' f) ≡ TDR = rw q.owner (ok.owners f (rw q.kind at b.type)) in
          by_eq (owner s' f) d (rooted f b) (λ e. (kept_tdr (owner s' f) ko e).kind ∙ ko)
