-- The used frames move as a run counts them: its count, held below 2 ^ 64, never comes near that.
use Rattle.std.specs.Prelude.{Some}
use Rattle.base_rules.specs.Basics.{◌≡◌, ℕ, ◌≤◌, given, min}
use Rattle.base_rules.proofs.Facts.{refl, arith}
use Rattle.book_ledger.specs.{Count.used_frames, Tables.Tables}
use Rattle.book_ledger.proofs.Lens.{frame_length}
use Rattle.call_carry.specs.Carry.{after_frame}
use Rattle.call_run.specs.Runs.{counted, count_most}
use Rattle.call_run.specs.Runs as run
use Rattle.book_ledger.specs.Count as counts
use Rattle.fact_keeps.proofs.{Ranged.Sized, Used.used_most, Used.used_after_fact, Stores.FrameIn, Stores.frame_kept, Stores.frame_set}
use Rattle.fact_keeps.specs.Runs as landed
use Rattle.call_plan.specs.Edits.{FrameEdit}

below : (x y : ℕ) → y ≡ x → y ≤ count_most → y ≡ min x count_most
below x y e l = omega (arith, e, l)

-- used after = used before − (was used) + (is used)
pub counted_fact : {t : Tables} {e : FrameEdit} → Sized t → FrameIn t e
    → used_frames (after_frame e t.frames) ≡ run.used_after e t.frames (used_frames t.frames)
unfolding after_frame run.used_after counts.is_used given counted landed.used_after landed.is_used
counted_fact z frame_kept = refl
counted_fact {t} z (frame_set {n} {v} h r) =
    let e = Some (n, v) in
    let least = used_most (after_frame e t.frames) in
    let same = frame_length t.frames n v in
    below _ _ (used_after_fact z (frame_set h r)) (omega (arith, least, same, z.frames))
