use Rattle.base_rules.proofs.Facts.{arith, zero-add, length-take}
use Rattle.door_script.specs.Text.{tab}
use Rattle.door_script.proofs.Marks.{upto_take, upto_within}
use Rattle.door_script.proofs.line.field.Goals as goal

pub slice_bounds-result-end : goal.slice_bounds-result-end
slice_bounds-result-end c = rw length-take (omega (arith, c.end_of.ensures, upto_within tab c.args.line.now))

pub returns : goal.returns
returns c = rw (c.end_of.ensures, zero-add) (upto_take tab c.args.line.now)
