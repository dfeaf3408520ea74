-- The frames that calls write are in range, and fit their words.
use Rattle.base_rules.specs.Basics.{◌≡◌, Bool, true, ℕ, ◌+◌, ◌<◌, ◌≤◌, choose, length, eqb}
use Rattle.base_rules.proofs.Facts.{refl, arith, lt-ltb, ltb-true, leb-true, eqb-true, choose_both, both_left, both_right}
use Rattle.book_ledger.specs.{Tables.Tables, declared.words.Entry.Entry, declared.sizes.Sizes.Sizes, declared.words.Frame.Frame}
use Rattle.base_units.specs.Limits.{epoch_most}
use Rattle.book_ledger.specs.Codes.{NDA, TDR, TDCX, EPT, REG, NL_MAPPED, NL_BLOCKED, PENDING_BLOCKED}
use Rattle.book_walk.specs.Walk.{entry_type}
use Rattle.book_range.specs.{Range.frame_limits, declared.FrameLimits.FrameLimits}
use Rattle.book_ledger.specs.Words.{FrameFits, EntryFits}
use Rattle.call_plan.specs.Edits.{freed, new_tdr, new_tdcx, new_ept, new_reg, with_frame_epoch}
use Rattle.fact_keeps.specs.Views.{frame}
use Rattle.fact_keeps.proofs.Ranged.{passed, frame_good, entry_good, sizes_in, Sized}

module _ (z : Sizes) where
  pub freed_good : frame_good z freed ≡ true
  unfolding frame_limits choose
  freed_good = refl

  pub tdr_good : (r : ℕ) → r < z.records → frame_good z (new_tdr r) ≡ true
  unfolding frame_limits choose
  tdr_good r h = rw (lt-ltb r z.records h) refl

  pub tdcx_good : (d : ℕ) → d < z.frames → frame_good z (new_tdcx (frame d)) ≡ true
  unfolding frame_limits choose
  tdcx_good d h = rw (lt-ltb d z.frames h) refl

  pub ept_good : (d n : ℕ) → d < z.frames → n < z.tables → frame_good z (new_ept (frame d) n) ≡ true
  unfolding frame_limits choose
  ept_good d n h k = rw (lt-ltb d z.frames h, lt-ltb n z.tables k) refl

  pub reg_good : (d : ℕ) → d < z.frames → frame_good z (new_reg (frame d)) ≡ true
  unfolding frame_limits choose
  reg_good d h = rw (lt-ltb d z.frames h) refl

  -- a frame of a tree may have any epoch that a domain has
  pub tree_epoch : {k : ℕ} (n : ℕ) → k ≡ entry_type n → (frame_limits z k).epoch ≡ epoch_most + 1
  unfolding entry_type frame_limits choose
  tree_epoch n e =
      let P : ℕ → Type 0 = λ x. (frame_limits z x).epoch ≡ epoch_most + 1 in
      rw e (choose_both P (eqb n NL_MAPPED) EPT _ (λ _. refl) (λ _. choose_both P (eqb n NL_BLOCKED) EPT REG (λ _. refl) (λ _. refl)))

  -- a blocked frame
  pub dated_good : (f : Frame) (e : ℕ) → (frame_limits z f.kind).epoch ≡ epoch_most + 1 → e ≤ epoch_most
      → frame_good z f ≡ true → frame_good z (with_frame_epoch f e) ≡ true
  dated_good f e k h g = let w = simp passed at g in simp passed (w.0, (w.1.0, (omega (arith, k), w.1.1.1)))

-- a frame in range fits its word
pub frame_fits : {t : Tables} → Sized t → (f : Frame) → frame_good (sizes_in t) f ≡ true → FrameFits f
unfolding frame_limits
frame_fits {t} z f g =
    let P : FrameLimits → Type 0 = λ l. f.owner.0 < l.owner → f.number < l.number → f.epoch < l.epoch → f.size < l.size → FrameFits f in
    let fits : P (frame_limits (sizes_in t) f.kind) =
    choose_both P _ _ _ (λ k a b c d. omega (arith, eqb-true f.kind NDA k))
    (λ _. choose_both P _ _ _ (λ k a b c d. omega (arith, eqb-true f.kind TDR k))
    (λ _. choose_both P _ _ _ (λ k a b c d. omega (arith, eqb-true f.kind TDCX k))
    (λ _. choose_both P _ _ _ (λ k a b c d. omega (arith, eqb-true f.kind EPT k))
    (λ _. choose_both P _ _ _ (λ k a b c d. omega (arith, eqb-true f.kind REG k)) (λ _ a b c d. omega arith))))) in
    let w = simp passed at g in
    fits w.0 w.1.0 w.1.1.0 w.1.1.1

pub entry_fits : {t : Tables} → Sized t → (v : Entry) → entry_good (length t.frames) v ≡ true → EntryFits v
entry_fits {t} z v g =
    let s = leb-true v.state PENDING_BLOCKED (both_left _ _ g) in
    choose_both (λ (x : Bool). x ≡ true → EntryFits v) _ _ _
    (λ _ q. omega (arith, eqb-true v.frame.0 0 q)) (λ _ q. omega (arith, ltb-true v.frame.0 (length t.frames) q)) (both_right _ _ g)
