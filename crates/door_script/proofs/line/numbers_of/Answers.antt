use Rattle.door_script.specs.Lines.{numbers_of}
use Rattle.door_script.proofs.line.numbers_of.Goals as goal

pub returns : goal.returns
unfolding numbers_of
returns c = cc
