use Rattle.book_ledger.specs.Lent.{tables_of, SameLoans}
use Rattle.call_carry.proofs.Sweeps.{SweepingTables}
use Rattle.call_carry.proofs.sweep.Given as goal

abbrev pub invariant-loop-rec : goal.invariant-loop-rec
invariant-loop-rec l = record { place : SameLoans l.initial.t l.t; tables : SweepingTables l.w (tables_of l.initial.t) (tables_of l.t) l.rec }
