-- "exactly the frames that aren't NDA"
use Rattle.base_rules.specs.Basics.{ℕ, List, length, eqb, choose, sum_from}
use Rattle.book_ledger.specs.{Codes.NDA, Tables.frame_at, declared.words.Frame.Frame}

unfoldable pub is_used : Frame → ℕ
is_used f = choose (eqb f.kind NDA) 0 1

unfoldable pub one_used : List ℕ → ℕ → ℕ
one_used fs n = choose (eqb (frame_at fs (record { 0 = n })).kind NDA) 0 1

unfoldable pub used_frames : List ℕ → ℕ
used_frames fs = sum_from (one_used fs) 0 (length fs)
