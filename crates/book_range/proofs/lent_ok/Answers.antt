use Rattle.base_rules.proofs.Facts.{steps}
use Rattle.book_range.specs.Range.{lent_ok}
use Rattle.book_range.proofs.lent_ok.Goals as goal

pub returns-then-not-sizes_ok : goal.returns-then-not-sizes_ok
unfolding lent_ok
returns-then-not-sizes_ok c = search steps depth 12

pub returns-then-not-spare_clear : goal.returns-then-not-spare_clear
unfolding lent_ok
returns-then-not-spare_clear c = search steps depth 12

pub returns-then-not-all_frames_ok : goal.returns-then-not-all_frames_ok
unfolding lent_ok
returns-then-not-all_frames_ok c = search steps depth 12

pub returns-then-not-all_tables_ok : goal.returns-then-not-all_tables_ok
unfolding lent_ok
returns-then-not-all_tables_ok c = search steps depth 12

pub returns : goal.returns
unfolding lent_ok
returns c = search steps depth 12
