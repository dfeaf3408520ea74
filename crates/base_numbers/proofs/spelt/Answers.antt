use Rattle.base_rules.specs.Basics.{◌+◌, ◌*◌, ◌^◌, ◌<◌}
use Rattle.base_rules.proofs.Facts.{arith}
use Rattle.base_numbers.proofs.Numbers.{spelling_stop, spelling_over, spelling_over_by, spelling_more, spelling_end}
use Rattle.base_numbers.proofs.spelt.Goals as goal

pub returns-then-not-is_ascii_digit : goal.returns-then-not-is_ascii_digit
returns-then-not-is_ascii_digit c = search spelling_stop

pub returns-in_err-checked_mul : goal.returns-in_err-checked_mul
returns-in_err-checked_mul c =
    let over : ¬ (c.loop-byte.value * 10 < 2 ^ 64) = omega (arith, c.in_err-checked_mul.ensures) in
    rw c.from_residual.ensures (search (spelling_over, over))

pub returns-in_err-value : goal.returns-in_err-value
returns-in_err-value c =
    let over : ¬ (c.loop-byte.value * 10 + c.from-digit.result < 2 ^ 64) = omega (arith, c.in_ok-checked_mul.ensures, c.in_err-value.ensures) in
    rw c.from_residual-in_err-value.ensures (search (spelling_over_by, over))

pub loop-byte-preserved : goal.loop-byte-preserved
loop-byte-preserved c = search (spelling_more, c.in_ok-checked_mul.ensures, c.in_ok-value.ensures)

pub returns : goal.returns
returns c = search spelling_end
