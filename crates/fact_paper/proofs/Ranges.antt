-- Words at the ends of answer 13's ranges are judged as the paper says.
use Rattle.base_rules.proofs.Facts.{refl}
use Rattle.book_stock.specs.Bits.{spare_clear}
use Rattle.book_range.specs.Range.{frame_limits, frame_ok, entry_ok, entries_ok, page_ok, pages_ok, domain_ok, record_ok, table_ok, rooted_ok}
use Rattle.fact_cases.proofs.Open.{call_open}
use Rattle.fact_paper.specs.Ranges.{all_in, none_in, Ranges}

pub ranges : Ranges
unfolding all_in none_in frame_limits frame_ok entry_ok entries_ok page_ok pages_ok domain_ok record_ok table_ok rooted_ok spare_clear call_open
ranges = record { frames = (refl, refl); entries = (refl, refl); records = (refl, refl); table = (refl, refl); root' = (refl, refl); spare = (refl, refl) }
