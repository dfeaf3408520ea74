-- The witness state, reached from a fresh start.
use Rattle.base_rules.specs.Basics.{◌≡◌, List, [], ◌∷◌, true, false, length, choose, given}
use Rattle.base_rules.proofs.Facts.{refl, ◌∙◌, arith}
use lib.Count.{ones}
use Rattle.base_units.specs.Limits.{between, frames_ok, base_ok}
use Rattle.book_gauge.specs.{Fill.ratio, declared.Gauge.Gauge}
use Rattle.book_ledger.specs.{Tables.Tables, Sizes.tables_of, Sizes.sizes_of, Sizes.lengths_ok, Sizes.sizes_ok}
use Rattle.book_range.specs.Range.{lent_ok}
use Rattle.base_calls.specs.{Answers.values_of, declared.Call.Call}
use Rattle.call_host.specs.Calls.{settled, rule_of, call_of, reset_of}
use Rattle.fact_keeps.proofs.Keeps.{rule_keeps, rule_length}
use Rattle.fact_ownership.specs.Reached.{Lists, Reached}
use Rattle.fact_ownership.specs.Reached as reach
use Rattle.fact_cases.specs.{Cases.base, Cases.fresh_tables, Cases.run, Witness.beside, Witness.Witness}
use Rattle.fact_cases.proofs.{Right.past_13, Right.start, Open.call_open}

-- some lists with which tables are reached
abbrev Somehow : Tables → Type 0
Somehow t = (l : Lists) × Reached base t l

-- the program's marks, any fill, no lamp
abbrev gauge : Gauge
gauge = record { raise = ratio 768 1024; clear = ratio 512 1024; fill = ratio 0 1024; lamp = false }

from_reset : Somehow fresh_tables
unfolding reset_of sizes_ok sizes_of tables_of lengths_ok frames_ok base_ok between ones given choose values_of
from_reset = (λ e. [], reach.fresh fresh_tables gauge refl)

run_reached : (t : Tables) → Somehow t → length t.frames ≡ 1024 → lent_ok base t ≡ true → (cs : List Call) → Somehow (run t cs)
unfolding run rule_of settled
run_reached t s n ok [] = s
run_reached t s n ok (c ∷ cs) =
    let once : Somehow (call_of base t gauge c).tables = (_, reach.called s.1 gauge c) in
    run_reached (rule_of base t gauge c).tables (rw (past_13 t gauge c n ok refl refl) at once) (rule_length base t ok gauge c ∙ n) (rule_keeps base t ok gauge c) cs

pub witness : Witness (run fresh_tables beside)
unfolding run call_open
witness =
    let s = run_reached fresh_tables from_reset refl start beside in
    record {
      lists = s.0;
      reached = s.1;
      freed = refl;
      teardown = refl;
      left = record { type = omega arith; owner = refl };
      keyed = record { tdr = refl; held = λ e. absurd (omega (arith, e)) };
      written = refl;
      written_keyed = record { tdr = refl; held = λ e. absurd (omega (arith, e)) };
    }
