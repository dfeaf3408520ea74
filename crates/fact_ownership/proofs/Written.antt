-- The one change that may touch several domains: of each that is blocked the lifecycle becomes written back. It keeps a state sound and tidy, since
-- such a domain has its key and all its frames still.
use Rattle.base_rules.specs.Basics.{◌≡◌, List, ℕ, eqb, choose}
use Rattle.base_rules.proofs.Facts.{refl, sym, ap, ◌∙◌, subst, arith, choose_both}
use Rattle.book_ledger.specs.{Codes.TDR, Codes.BLOCKED_LIFE, Codes.TEARDOWN, declared.words.Domain.Domain}
use Rattle.book_ledger.specs.declared.words.Entry.{Entry}
use Rattle.fact_keeps.specs.Views.{View, kind, number, key}
use Rattle.fact_ownership.specs.Owned.{Found, Extent, Owns, Keyed, written_back, WrittenBack}
use Rattle.fact_ownership.specs.{Reached.Lists, Always.Holds, Always.holds}
use Rattle.fact_ownership.proofs.{Domain.SameFrame, Domain.same_frame, Domain.Leaves, Domain.was_keyed, Domain.same_owns, Sound.held, Sound.Sound, Sound.held_besides}
use Rattle.fact_ownership.proofs.Tidy.{Tidy}

-- written back is no teardown, and nothing else becomes one
leaves_written : Leaves written_back
unfolding choose
leaves_written = record {
  listed = λ d. refl;
  children = λ d. refl;
  freed = λ d q. rw q refl;
  keyed = λ d. choose_both (λ (n : ℕ). n ≡ TEARDOWN → d.life ≡ TEARDOWN) (eqb d.life BLOCKED_LIFE) _ _ (λ _ q. absurd (omega arith)) (λ _ q. q);
}

-- every frame, control page, entry and in-use bit is as it was, and of the domains the lifecycle moved as writing back moves it
pub record Swept (s s' : View) : Type 0 where
  pub frames : (f : ℕ) → s'.frame f ≡ s.frame f
  pub domains : (e : ℕ) → kind s e ≡ TDR → s'.domain (number s e) ≡ written_back (s.domain (number s e))
  pub controls : (r i : ℕ) → s'.control r i ≡ s.control r i
  pub entries : (b i : ℕ) → s'.entry b i ≡ s.entry b i
  pub uses : (b : ℕ) → s'.used b ≡ s.used b

module _ (z : Extent) {s s' : View} (p : Swept s s') where
  same : (f : ℕ) → SameFrame s s' f
  same f = same_frame s s' f (p.frames f)

  pub written_back_fact : (e : ℕ) → kind s e ≡ TDR → WrittenBack z s s' e
  written_back_fact e k = record {
    tdr = p.frames e;
    record' = p.domains e k;
    pages = λ i. p.controls _ i;
    kept = λ f _. p.frames f;
    gained = λ f b. record { type = rw (same f).kind at b.type; owner = sym (same f).owner ∙ b.owner };
    tree = λ b i _ _. p.entries b i;
    used = λ b _. p.uses b;
  }

  module _ {l : Lists} (ok : Sound z s l) where
    pub swept_sound : Sound z s' l
    swept_sound = record {
      owns = λ d k.
          let ke = sym (same d).kind ∙ k in
          let u = written_back_fact d ke in
          subst (λ (x : List Found). Owns s' d x) (held_besides leaves_written ok l d u ke (λ _. refl))
          (same_owns leaves_written z s s' d u (held z s l d) (ok.owns d ke));
      unique = λ k f g nb kf kg q. ok.unique k f g nb (sym (same f).kind ∙ kf) (sym (same g).kind ∙ kg) (sym (same f).number ∙ q ∙ (same g).number);
      used = λ k f nb kf. p.uses _ ∙ rw (same f).number (ok.used k f nb (sym (same f).kind ∙ kf));
      tables = λ g k. rw (same g).number (ok.tables g (sym (same g).kind ∙ k));
      owners = λ f k. rw (same f).owner ((same _).kind ∙ ok.owners f (rw (same f).kind at k));
    }

    now : (e : ℕ) → kind s e ≡ TDR → s'.domain (number s' e) ≡ written_back (s.domain (number s e))
    now e k = ap s'.domain (same e).number ∙ p.domains e k

    before : (e : ℕ) → Keyed s' e → Keyed s e
    before e k = let ke = sym (same e).kind ∙ k.tdr in was_keyed leaves_written z s s' e (written_back_fact e ke) ke k

    same_key : (e : ℕ) → kind s e ≡ TDR → key s' (number s' e) ≡ key s (number s e)
    same_key e k = ap (λ (x : Domain). x.key) (now e k)

    still_held : (b : ℕ) → Holds z s b → Holds z s' b
    still_held b (holds k f nb kf q) = holds k f nb ((same f).kind ∙ kf) (rw (same f).number q)

    pub swept_tidy : Tidy z s → Tidy z s'
    swept_tidy ti = record {
      keys = λ d e kd ke q. let d' = before d kd in let e' = before e ke in ti.keys d e d' e' (sym (same_key d d'.tdr) ∙ q ∙ same_key e e'.tdr);
      taken = λ b u. still_held b (ti.taken b (sym (p.uses b) ∙ u));
      idle = λ d k u i h.
          let ke = sym (same d).kind ∙ k in
          ap (λ (x : Entry). x.state) (p.entries _ i) ∙ rw (same d).number (ti.idle d ke (sym (ap (λ (x : Domain). x.op) (now d ke)) ∙ u) i h);
    }
