use Rattle.base_rules.proofs.Facts.{steps}
use Rattle.book_gauge.proofs.Marks.{mark_tried}
use Rattle.book_gauge.proofs.is_mark.Goals as goal

pub returns-then-not-frames_ok : goal.returns-then-not-frames_ok
returns-then-not-frames_ok c = rw (mark_tried _ _ c.well_formed.0.1) (search steps depth 12)

pub returns : goal.returns
returns c = let b = c in
    rw (mark_tried _ _ c.well_formed.0.1, ← b.mark_count.ensures, ← c.fill_of.ensures.quotient) (search steps depth 12)
