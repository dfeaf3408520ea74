use Rattle.std.proofs.Common.{rules, refl}
use borrow.Author.Tests.{tests}
use lib.Seq.{take_all}
use Rattle.base_rules.specs.Basics.{length, given}
use Rattle.base_rules.proofs.Facts.{arith, le_refl}
use Rattle.base_rules.proofs.Chains.{all_words}
use Rattle.book_ledger.specs.{Tables.frame_at, Words.frame_from}
use Rattle.book_range.specs.Range.{frame_ok, fits_by_type, limits_by_type, all_frames_ok}
use Rattle.book_range.proofs.Limits.{by_type}
use Rattle.book_range.proofs.all_frames_ok.Goals as goal

pub returns : goal.returns
unfolding all_frames_ok frame_ok frame_at given
returns c =
    all_words (frame_ok c.args.s c.args.frames.now) (λ w. fits_by_type (limits_by_type c.args.s) (frame_from w)) (length c.args.frames.now) c.args.frames.now
    c.all.ensures.ran (rw (take_all _ _ (le_refl _)) c.iter.ensures.rest) (λ l. absurd (omega arith)) (λ i l. by_type _ _)
    (λ x b q k. search (rules, tests))
