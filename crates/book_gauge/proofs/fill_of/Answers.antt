use Rattle.book_gauge.proofs.Bits.{filled}
use Rattle.book_gauge.proofs.fill_of.Goals as goal

pub returns : goal.returns
returns c = filled _ _ _ (rw (c.nearest_u64_to_f64.ensures, c.nearest_u64_to_f64-2.ensures))
