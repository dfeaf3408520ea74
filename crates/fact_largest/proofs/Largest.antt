-- Request 6's cases are answered as it says, request 5's sweep reaches the last record, and the lent words have room.
use Rattle.base_rules.specs.Basics.{choose}
use Rattle.base_rules.proofs.Facts.{refl, arith, lit≤, lit<}
use lib.{Count.ones, Ieee.div, Ieee.of_int, Ieee.le, Ieee.lt}
use Rattle.base_units.specs.Limits.{between, frames_ok, base_ok}
use Rattle.book_gauge.specs.Update.{lamp_after}
use Rattle.book_gauge.proofs.Laws.{of_marks}
use Rattle.book_ledger.specs.{Sizes.lengths_ok, Sizes.sizes_ok}
use Rattle.book_ledger.proofs.Packing.{frame_back, domain_back, entry_back}
use Rattle.book_range.specs.Range.{frame_limits, frame_ok, entry_ok, page_ok, pages_ok, domain_ok, record_ok}
use Rattle.fact_keeps.proofs.{Ranged.of_lent, Fresh.zeros_lent}
use Rattle.fact_cases.specs.Cases.{base, run}
use Rattle.fact_cases.proofs.Open.{call_open}
use Rattle.fact_paper.specs.{Numbers.Lamp, Harmed.AllSay, Harmed.each_says, Ranges.all_in, Ranges.none_in}
use Rattle.fact_paper.proofs.Harmed.{say, all_say}
use Rattle.fact_largest.specs.Largest.{fresh, ends, rows, crowded, none_left, Taken, Swept, Ranged, Room}

pub ends_right : AllSay ends
unfolding each_says say call_open
ends_right = all_say ends refl

pub none_left_right : AllSay none_left
unfolding each_says say rows crowded call_open
none_left_right = all_say none_left refl

pub taken : Taken
unfolding run rows crowded call_open
taken = record { created = refl; record_taken = refl; added = refl; table_taken = refl; table_back = refl; record_back = refl }

pub swept_right : Swept
unfolding run rows crowded call_open
swept_right = record { last = refl; unused = refl }

pub ranged : Ranged
unfolding sizes_ok lengths_ok frames_ok base_ok ones all_in none_in frame_limits frame_ok entry_ok page_ok pages_ok domain_ok record_ok call_open
ranged = record { lent = of_lent base fresh (zeros_lent base fresh refl); frames = (refl, refl); entries = (refl, refl); records = (refl, refl) }

-- "fill stays exact"
pub largest_lamp : Lamp 16384 12288 8192
unfolding frames_ok between ones choose lamp_after div of_int le lt
largest_lamp = record {
  marks = of_marks 16384 refl _ _ (record { high = (12288, lit≤ tt, refl); low = (8192, lit≤ tt, refl); order = lit≤ tt; above = lit< tt });
  lit = λ was. refl;
  stays = λ was. refl;
  out = λ was. refl;
}

pub room : Room
room = record {
  frame = λ f a b c d e. frame_back f (omega arith);
  records = lit≤ tt;
  domain = λ d a b c e f g h. domain_back d (omega arith);
  entry = λ e a b. entry_back e (omega arith);
}
