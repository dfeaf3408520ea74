-- One arm of a match, from what its pattern told: the rule at the value is the rule at the pattern. And the steps of a call, put together.
use Rattle.base_rules.specs.Basics.{◌≡◌, ℕ, List, length, given}
use Rattle.base_units.specs.declared.address.Hpa.{Hpa}
use Rattle.book_gauge.specs.declared.Gauge.{Gauge}
use Rattle.book_ledger.specs.Tables.{Tables}
use Rattle.base_calls.specs.Answers.{Answer}
use Rattle.base_calls.specs.declared.{Ask.Ask, Ask.TheVariants.Reset, Call.Call}
use Rattle.call_plan.specs.Edits.{FrameEdit, Plan}
use Rattle.call_carry.specs.Carry.{carried_out, carried}
use Rattle.call_host.specs.Calls.{outcome, plan_of, reset_of}
use Rattle.call_run.specs.Runs.{used_after, used_by, Next, next, gauge_with, known_reset, rule_with, next_of}
use Rattle.call_run.specs.declared.Run.{Run}

pub edit_is : (fs : List ℕ) (used : ℕ) {z : ℕ} {e k : FrameEdit} → e ≡ k → z ≡ used_after k fs used → z ≡ used_after e fs used
edit_is fs used e h = rw e h

module _ (base : Hpa) (t : Tables) (r : Run) where
  pub ask_is : {z : Next} {a k : Ask} → a ≡ k → z ≡ next_of base t r k → z ≡ next_of base t r a
  ask_is e h = rw e h

  pub ruled : (c : Call) {p : Plan} {used : ℕ} {a : Answer} {u : Tables} {g : Gauge} → p ≡ plan_of base t c → used ≡ used_by p t.frames r.used
      → carried_out a u ≡ carried t p → g ≡ gauge_with r.gauge a used (length u.frames)
      → next a u (record { gauge = g; used = used; lent = r.lent; marked = r.marked }) ≡ rule_with base t r c
  unfolding rule_with given
  ruled c e f k h = rw (← e, ← f, ← k, h)

  pub was_reset : {a : Answer} {u : Tables} {g : Gauge} {k : Run} → outcome a u g ≡ reset_of base t r.gauge → k ≡ known_reset r a g
      → next a u k ≡ next_of base t r Reset
  unfolding next_of given
  was_reset e h = rw (← e, h)
