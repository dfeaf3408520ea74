use Rattle.base_rules.specs.Basics.{choose}
use Rattle.base_rules.proofs.Facts.{refl}
use Rattle.book_gauge.specs.Marks.{same_bits}
use Rattle.book_gauge.proofs.same_bits.Goals as goal

pub returns-then-is_nan : goal.returns-then-is_nan
unfolding same_bits choose
returns-then-is_nan c = rw (← c.is_nan.ensures.value, c.if-is_nan.true) refl

pub returns-then-is_nan-2 : goal.returns-then-is_nan-2
unfolding same_bits choose
returns-then-is_nan-2 c = rw (← c.is_nan.ensures.value, c.if-is_nan.false, ← c.is_nan-2.ensures.value, c.if-is_nan-2.true) refl

pub returns : goal.returns
unfolding same_bits choose
returns c = rw (← c.is_nan.ensures.value, c.if-is_nan.false, ← c.is_nan-2.ensures.value, c.if-is_nan-2.false) refl
