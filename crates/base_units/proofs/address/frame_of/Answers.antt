use Rattle.base_rules.proofs.Facts.{steps}
use Rattle.base_units.specs.Address.{frame_of}
use Rattle.base_units.proofs.address.frame_of.Goals as goal

pub returns-then-hpa-ne0 : goal.returns-then-hpa-ne0
unfolding frame_of
returns-then-hpa-ne0 c = search steps depth 12

pub returns-then-hpa-base : goal.returns-then-hpa-base
unfolding frame_of
returns-then-hpa-base c = search steps depth 12

pub returns-then-number-frames : goal.returns-then-number-frames
unfolding frame_of
returns-then-number-frames c = search steps depth 12

pub returns : goal.returns
unfolding frame_of
returns c = search steps depth 12
