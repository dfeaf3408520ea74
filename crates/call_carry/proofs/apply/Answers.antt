use Rattle.call_carry.specs.Carry.{applied}
use Rattle.call_carry.proofs.apply.Goals as goal

pub returns-clause-tables : goal.returns-clause-tables
unfolding applied
returns-clause-tables c = rw (
  c.apply_frame.ensures,
  c.apply_use.ensures,
  c.apply_page.ensures,
  c.apply_domain.ensures,
  c.apply_record.ensures,
  c.apply_entry.ensures,
  c.apply_block.ensures,
)
