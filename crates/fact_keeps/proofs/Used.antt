-- The used frames move by the one frame that an edit sets: less one if it was used, one more if it is.
use Rattle.base_rules.specs.Basics.{◌≡◌, List, ℕ, zero, suc, ◌+◌, ◌<◌, ◌≤◌, length, sum_from}
use Rattle.base_rules.proofs.Facts.{refl, ap, arith, eq-or-lt_of_le, ⊎_elim, choose_both}
use Rattle.book_ledger.specs.{Count.one_used, Count.used_frames, Tables.Tables, Tables.set_frame}
use Rattle.book_ledger.proofs.Lens.{frame_same, frame_other, frame_length}
use Rattle.call_carry.specs.Carry.{after_frame}
use Rattle.fact_keeps.proofs.{Ranged.Sized, Frames.frame_fits}
use Rattle.fact_keeps.proofs.Stores.{stored, stored_same, stored_other, FrameIn, frame_kept, frame_set}
use Rattle.fact_keeps.specs.{Views.frame, Runs.is_used, Runs.used_after}
use Rattle.call_plan.specs.Edits.{FrameEdit}

-- ---- a sum whose terms are the same but for the one at n

module _ (g g' : ℕ → ℕ) where
  sum_same : (k i : ℕ) → ((j : ℕ) → i ≤ j → g' j ≡ g j) → sum_from g' i k ≡ sum_from g i k
  unfolding sum_from
  sum_same zero i h = refl
  sum_same (suc k) i h = omega (arith, h i (omega arith), sum_same k (i + 1) (λ j l. h j (omega arith)))

  sum_move : (k i n : ℕ) → i ≤ n → n < i + k → ((j : ℕ) → (j ≡ n → ⊥) → g' j ≡ g j) → sum_from g' i k + g n ≡ sum_from g i k + g' n
  unfolding sum_from
  sum_move zero i n h l d = absurd (omega arith)
  sum_move (suc k) i n h l d = ⊎_elim
      (λ (q : i ≡ n). omega (arith, ap g q, ap g' q, sum_same k (i + 1) (λ j o. d j (λ r. omega arith))))
      (λ (q : i < n). omega (arith, d i (λ r. omega arith), sum_move k (i + 1) n (omega arith) (omega arith) d))
      (eq-or-lt_of_le h)

sum_most : (g : ℕ → ℕ) (k i : ℕ) → ((j : ℕ) → g j ≤ 1) → sum_from g i k ≤ k
unfolding sum_from
sum_most g zero i h = omega arith
sum_most g (suc k) i h = omega (arith, h i, sum_most g k (i + 1) h)

-- ---- the used frames

-- a count that is carried fits where the frames' number does
pub used_most : (fs : List ℕ) → used_frames fs ≤ length fs
unfolding used_frames one_used
used_most fs = sum_most (one_used fs) (length fs) 0 (λ j. choose_both (λ (x : ℕ). x ≤ 1) _ 0 1 (λ _. omega arith) (λ _. omega arith))

-- used after = used before − (was used) + (is used)
pub used_after_fact : {t : Tables} {e : FrameEdit} → Sized t → FrameIn t e → used_frames (after_frame e t.frames) ≡ used_after e t.frames (used_frames t.frames)
unfolding after_frame used_after used_frames one_used is_used
used_after_fact z frame_kept = refl
used_after_fact {t} z (frame_set {n} {v} h r) =
    let fs = t.frames in
    let g = one_used fs in
    let moved = sum_move g (one_used (set_frame fs n v)) (length fs) 0 n.0 (omega arith) (omega arith) (λ j d. ap is_used (frame_other fs n v (frame j) d)) in
    let less = sum_move g (stored g n.0 0) (length fs) 0 n.0 (omega arith) (omega arith) (stored_other g n.0 0) in
    rw (frame_length fs n v) (omega (arith, moved, less, stored_same g n.0 0, ap is_used (frame_same fs n v h (frame_fits z v r))))
