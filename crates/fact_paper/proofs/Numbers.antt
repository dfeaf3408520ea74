-- Document 01's numbers, met in cases, are the definitions'.
use Rattle.base_rules.specs.Basics.{choose}
use Rattle.base_rules.proofs.Facts.{refl}
use lib.{Count.ones, Ieee.div, Ieee.of_int, Ieee.le, Ieee.lt}
use Rattle.base_units.specs.Limits.{between, frames_ok, base_ok}
use Rattle.book_gauge.specs.Update.{lamp_after}
use Rattle.book_gauge.proofs.Laws.{program_ok}
use Rattle.fact_cases.specs.Cases.{run, AllRight}
use Rattle.fact_paper.specs.{Numbers.numbered, Numbers.Limits, Numbers.Lamp, Numbers.Packed, Numbers.Left}
use Rattle.fact_paper.specs.Asked.{each, every, root_tables, asked}
use Rattle.fact_cases.proofs.{Right.holds, Right.same, Right.all_right, Open.call_open}

pub numbers_right : AllRight numbered
unfolding numbered holds same run call_open
numbers_right = all_right numbered refl

pub asked_right : AllRight asked
unfolding asked each every root_tables holds same run call_open
asked_right = all_right asked refl

pub packed : Packed
packed = record { frame = refl; domain = refl; entry = refl; lives = (refl, (refl, (refl, (refl, refl)))); ops = (refl, (refl, refl)) }

pub limits : Limits
unfolding frames_ok base_ok between ones choose
limits = record {
  frames = (refl, (refl, (refl, (refl, refl))));
  base = (refl, (refl, (refl, refl)));
  aligned = refl;
  records = (refl, (refl, (refl, refl)));
  tables = (refl, (refl, (refl, refl)));
  epochs = (refl, (refl, (refl, refl)));
}

pub program_lamp : Lamp 1024 768 512
unfolding lamp_after choose div of_int le lt
program_lamp = record { marks = program_ok; lit = λ was. refl; stays = λ was. refl; out = λ was. refl }

pub left : Left
unfolding run call_open
left = record { stock = refl; record' = refl; page = refl; second = refl; blocked' = refl }
