-- A call's number, found by a match.
use Rattle.base_rules.specs.Basics.{◌≡◌, ℕ, zero, suc, ◌≤◌, length}
use Rattle.base_rules.proofs.Facts.{arith, List·getD-eq-default}
use Rattle.base_calls.specs.declared.Ask.{Ask, TheVariants.Unreadable}
use Rattle.door_requests.specs.{Requests.asks, Requests.ask_at, declared.Request.Request}

pub number_is : (r : Request) {z : Ask} {n k : ℕ} → n ≡ k → z ≡ ask_at r k → z ≡ ask_at r n
number_is r e h = rw e h

-- what a match leaves to its last arm: the number is none of those below k
abbrev Others : ℕ → ℕ → Type 0
Others n zero = Unit {0}
Others n (suc k) = Others n k × (n ≡ k → ⊥)

past : (n k : ℕ) → Others n k → k ≤ n
past n zero o = omega arith
past n (suc k) o = omega (arith, past n k o.0, o.1)

pub number_other : (r : Request) {n : ℕ} → Others n (length (asks r)) → Unreadable ≡ ask_at r n
unfolding ask_at
number_other r {n = n} o = rw (List·getD-eq-default {A = Ask} (asks r) Unreadable {n = n} (past n (length (asks r)) o))
