use Rattle.base_rules.proofs.Facts.{passed_on}
use Rattle.call_carry.proofs.Carried.{refused, told, done, swept_all}
use Rattle.call_carry.proofs.carry.Goals as goal

pub returns-in_err-deed-clause-tables : goal.returns-in_err-deed-clause-tables
returns-in_err-deed-clause-tables c = refused _ c.in_err-deed.was (passed_on c.from_residual.ensures)

pub returns-in-Tell-clause-tables : goal.returns-in-Tell-clause-tables
returns-in-Tell-clause-tables c = told _ c.in_ok-deed.was c.in-Tell.is

pub returns-in-Do-clause-tables : goal.returns-in-Do-clause-tables
returns-in-Do-clause-tables c = done _ c.in_ok-deed.was c.in-Do.is c.apply.ensures.tables

pub returns-in-Each-clause-tables : goal.returns-in-Each-clause-tables
returns-in-Each-clause-tables c = swept_all _ c.in_ok-deed.was c.in-Each.is c.sweep.ensures.tables
