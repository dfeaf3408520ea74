-- A request of a run that knows its tables and gauge is a single request, and the run knows those that it leaves.
use Rattle.base_rules.specs.Basics.{◌≡◌, given}
use Rattle.base_rules.proofs.Facts.{ap}
use Rattle.base_units.specs.declared.address.Hpa.{Hpa}
use Rattle.book_gauge.specs.declared.Gauge.{Gauge}
use Rattle.book_ledger.specs.Tables.{Tables}
use Rattle.base_calls.specs.Answers.{values_of}
use Rattle.call_run.specs.Runs.{begun_of, Next}
use Rattle.door_requests.specs.{Requests.ask_for, declared.Request.Request}
use Rattle.reefnettle.specs.Door.{door_of, told, next_door}
use Rattle.fact_keeps.proofs.AskRun.{next_is}

pub door_run : (base : Hpa) (t : Tables) (g : Gauge) (r : Request) → next_door base t (begun_of base t g) r
    ≡ told (door_of base t g r).values (door_of base t g r).tables (begun_of base (door_of base t g r).tables (door_of base t g r).gauge)
unfolding next_door door_of given
door_run base t g r = ap (λ (n : Next). told (values_of n.answer) n.tables n.run) (next_is base t g (ask_for r))
