-- A request of a run: the steps, put together.
use Rattle.base_rules.specs.Basics.{◌≡◌, given}
use Rattle.base_units.specs.declared.address.Hpa.{Hpa}
use Rattle.book_ledger.specs.Tables.{Tables}
use Rattle.base_calls.specs.Answers.{values_of, Answer}
use Rattle.base_calls.specs.declared.{Ask.Ask, Values.Values}
use Rattle.call_run.specs.{Runs.next, Runs.next_of, declared.Run.Run}
use Rattle.door_requests.specs.{Requests.ask_for, declared.Request.Request}
use Rattle.reefnettle.specs.Door.{told, next_door}

pub next_told : (base : Hpa) (t : Tables) (k : Run) (r : Request) {a : Ask} {x : Answer} {u : Tables} {l : Run} {v : Values}
    → a ≡ ask_for r → next x u l ≡ next_of base t k a → v ≡ values_of x → told v u l ≡ next_door base t k r
unfolding next_door given
next_told base t k r e f h = rw (← e, ← f, h)
