-- Keys, the stock and idle roots: what a shift keeps of them, with what is to be shown of the domain that it is on.
use Rattle.base_rules.specs.Basics.{◌≡◌, true, List, ℕ, ◌<◌}
use Rattle.base_rules.proofs.Facts.{refl, sym, ap, ◌∙◌, by_eq}
use Rattle.book_ledger.specs.{Codes.TDR, Codes.UNINITIALIZED, Codes.FREE, declared.words.Domain.Domain, declared.words.Entry.Entry}
use Rattle.fact_keeps.specs.Views.{View, kind, number, key, op}
use Rattle.fact_ownership.specs.{Owned.Found, Owned.Extent, Owned.Keyed, Owned.root, Owned.root_block, Owned.Untouched, Always.Holds}
use Rattle.fact_ownership.specs.Reached.{Lists}
use Rattle.fact_ownership.proofs.{Domain.same_frame, Domain.leaves_all, Domain.was_keyed, Sound.Sound, Shift.Shift, Shift.untouched, Shift.was_tdr}

pub record Tidy (z : Extent) (s : View) : Type 0 where
  pub keys : (d e : ℕ) → Keyed s d → Keyed s e → key s (number s d) ≡ key s (number s e) → d ≡ e
  pub taken : (b : ℕ) → s.used b ≡ true → Holds z s b
  pub idle : (d : ℕ) → kind s d ≡ TDR → op s (number s d) ≡ UNINITIALIZED → (i : ℕ) → i < z.wide → (s.entry (root_block z s d) i).state ≡ FREE

-- what is to be shown of the domain itself
pub record Own (z : Extent) (s s' : View) (d : ℕ) : Type 0 where
  pub key : Keyed s' d → (e : ℕ) → Keyed s e → (e ≡ d → ⊥) → key s' (number s' d) ≡ key s (number s e) → ⊥
  pub taken : (b : ℕ) → s'.used b ≡ true → Holds z s' b
  pub idle : kind s' d ≡ TDR → op s' (number s' d) ≡ UNINITIALIZED → (i : ℕ) → i < z.wide → (s'.entry (root_block z s' d) i).state ≡ FREE

module _ {z : Extent} {s : View} {l : Lists} (ok : Sound z s l) (ti : Tidy z s) {s' : View} {l' : Lists} {d : ℕ} {gone come : List Found}
    (p : Shift z s s' l l' d gone come) (o : Own z s s' d) where
  -- another domain is as it was
  record Before (e : ℕ) : Type 0 where
    tdr : kind s e ≡ TDR
    moved : Untouched z s s' e
    numbered : number s' e ≡ number s e
    domain : s'.domain (number s' e) ≡ s.domain (number s e)

  before : (e : ℕ) → kind s' e ≡ TDR → (e ≡ d → ⊥) → Before e
  before e k ne =
      let ke = was_tdr ok p e k ne in
      let u = untouched ok p e ke ne in
      let n = (same_frame s s' e u.tdr).number in
      record { tdr = ke; moved = u; numbered = n; domain = ap s'.domain n ∙ u.record' }

  was_held : (e : ℕ) → Keyed s' e → (ne : e ≡ d → ⊥) → Keyed s e
  was_held e k ne = let b = before e k.tdr ne in was_keyed leaves_all z s s' e b.moved b.tdr k

  same_key : (e : ℕ) → Keyed s' e → (e ≡ d → ⊥) → key s' (number s' e) ≡ key s (number s e)
  same_key e k ne = ap (λ (x : Domain). x.key) (before e k.tdr ne).domain

  pub tidied : Tidy z s'
  tidied = record {
    keys = λ e f ke kf q. by_eq e d
        (λ a. by_eq f d (λ b. a ∙ sym b) (λ b. absurd (o.key (rw a at ke) f (was_held f kf b) b (rw a at q ∙ same_key f kf b))))
        (λ a. by_eq f d (λ b. absurd (o.key (rw b at kf) e (was_held e ke a) a (rw b at (sym q) ∙ same_key e ke a)))
        (λ b. ti.keys e f (was_held e ke a) (was_held f kf b) (sym (same_key e ke a) ∙ q ∙ same_key f kf b)));
    taken = o.taken;
    idle = λ e k u i h. by_eq e d (λ a. rw a (o.idle (rw a at k) (rw a at u) i h)) (λ a.
        let b = before e k a in
        rw b.numbered (ap (λ (x : Entry). x.state) (b.moved.tree (root_block z s e) i (root refl) h)
        ∙ ti.idle e b.tdr (sym (ap (λ (x : Domain). x.op) b.domain) ∙ u) i h));
  }
