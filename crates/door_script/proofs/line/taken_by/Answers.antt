use Rattle.std.proofs.Common.{◌≡◌}
use Rattle.base_numbers.specs.Number.{number_read}
use Rattle.base_rules.proofs.Facts.{if_eq, if_ne, option_some, option_none}
use Rattle.door_script.specs.Lines.{field, taken_by}
use Rattle.door_script.proofs.Fits.{unstarted, started}
use Rattle.door_script.proofs.line.taken_by.Goals as goal

pub returns-in_err-number_of : goal.returns-in_err-number_of
unfolding taken_by
returns-in_err-number_of c =
    let e : c.number_of.result ≡ number_read (field c.args.line.now) = cc in
    if_eq _ c.if-byte-eq-PLACE.true (option_none _ e c.in_err-number_of.was c.from_residual.ensures)

pub returns-then-byte-eq-PLACE : goal.returns-then-byte-eq-PLACE
unfolding taken_by
returns-then-byte-eq-PLACE c =
    let e : c.number_of.result ≡ number_read (field c.args.line.now) = cc in
    if_eq _ c.if-byte-eq-PLACE.true (option_some _ _ e c.in_ok-number_of.was cc)

pub returns-in_err-first : goal.returns-in_err-first
unfolding taken_by
returns-in_err-first c = if_ne _ c.if-byte-eq-PLACE.false (unstarted _ _ c.in_err-first.ensures.value c.from_residual-in_err-first.ensures)

pub returns : goal.returns
unfolding taken_by
returns c = if_ne _ c.if-byte-eq-PLACE.false (started _ _ c.in_ok-first.ensures.value c.then_some.ensures)
