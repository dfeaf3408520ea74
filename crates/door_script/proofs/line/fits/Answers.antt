use Rattle.base_rules.proofs.Facts.{◌∙◌}
use Rattle.door_script.proofs.Fits.{fitting_stop, fitting_within, fitting_more, fitting_end}
use Rattle.door_script.proofs.line.fits.Goals as goal

pub returns-in_default : goal.returns-in_default
returns-in_default c = search fitting_stop

pub slice_bounds-rest-count : goal.slice_bounds-rest-count
slice_bounds-rest-count c = search fitting_within

pub slice_bounds-rest-start : goal.slice_bounds-rest-start
slice_bounds-rest-start c = fitting_within c.loop-byte.invariant c.loop-byte-test.true c.taken_by.ensures c.in-Some.is

pub loop-byte-preserved : goal.loop-byte-preserved
loop-byte-preserved c = fitting_more c.loop-byte.invariant c.loop-byte-test.true c.taken_by.ensures c.in-Some.is

pub returns : goal.returns
returns c = c.is_empty.ensures ∙ fitting_end c.loop-byte.invariant c.loop-byte-test.false
