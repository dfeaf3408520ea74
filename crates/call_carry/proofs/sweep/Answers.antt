use Rattle.base_rules.proofs.Facts.{rules}
use Rattle.call_carry.proofs.Sweeps.{tables_none, tables_more, tables_end}
use Rattle.call_carry.proofs.sweep.Goals as goal

pub loop-rec-init : goal.loop-rec-init
loop-rec-init c = record { place = search rules; tables = tables_none _ _ }

pub loop-rec-preserved : goal.loop-rec-preserved
loop-rec-preserved c = record {
  place = (cc, cc, cc, cc, cc);
  tables = tables_more c.loop-rec.invariant.tables c.loop-rec-test.true c.sweep_record.ensures.tables;
}

pub returns-clause-tables : goal.returns-clause-tables
returns-clause-tables c = tables_end c.loop-rec.invariant.tables c.loop-rec-test.false
