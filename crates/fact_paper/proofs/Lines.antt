-- Each call's line is read as that call.
use Rattle.base_rules.proofs.Facts.{refl}
use Rattle.fact_paper.specs.Lines.{AllRead, lines}
use Rattle.fact_cases.proofs.Open.{call_open, line_open}

pub lines_read : AllRead lines
unfolding AllRead lines call_open line_open
lines_read = (refl, (refl, (refl, (refl, (refl, (refl, (refl, (refl, (refl, (refl, (refl, (refl, (refl, (refl, tt))))))))))))))
