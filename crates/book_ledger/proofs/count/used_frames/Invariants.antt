-- The loop keeps: what it counted, and the sum over the frames still to come, make the count of all.
use Rattle.base_rules.specs.Basics.{◌≡◌, ◌≤◌, ◌-◌, ◌+◌, length, sum_from}
use Rattle.book_ledger.specs.Count.{one_used, used_frames}
use Rattle.book_ledger.proofs.count.used_frames.Given as goal

abbrev pub invariant-loop-n : goal.invariant-loop-n
invariant-loop-n l = (l.used ≤ l.n) × (used_frames l.frames ≡ l.used + sum_from (one_used l.frames) l.n (length l.frames - l.n))
