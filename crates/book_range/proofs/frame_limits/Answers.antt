use Rattle.base_rules.proofs.Facts.{steps}
use Rattle.book_range.specs.Range.{frame_limits}
use Rattle.book_range.proofs.frame_limits.Goals as goal

pub returns-then-kind-eq-NDA : goal.returns-then-kind-eq-NDA
unfolding frame_limits
returns-then-kind-eq-NDA c = search steps depth 12

pub returns-then-kind-eq-TDR : goal.returns-then-kind-eq-TDR
unfolding frame_limits
returns-then-kind-eq-TDR c = search steps depth 12

pub returns-then-kind-eq-TDCX : goal.returns-then-kind-eq-TDCX
unfolding frame_limits
returns-then-kind-eq-TDCX c = search steps depth 12

pub returns-then-kind-eq-EPT : goal.returns-then-kind-eq-EPT
unfolding frame_limits
returns-then-kind-eq-EPT c = search steps depth 12

pub returns-then-kind-eq-REG : goal.returns-then-kind-eq-REG
unfolding frame_limits
returns-then-kind-eq-REG c = search steps depth 12

pub returns : goal.returns
unfolding frame_limits
returns c = search steps depth 12
