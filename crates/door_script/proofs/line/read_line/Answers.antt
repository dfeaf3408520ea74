use Rattle.std.proofs.Common.{rules, tests}
use Rattle.std.specs.Slice.Iter.{iter_rest}
use Rattle.std.proofs.lemmas.Iterator.{YieldsList-from_slice}
use Rattle.std.proofs.lemmas.Iterator.Search.{find_from_yields_List}
use Rattle.base_rules.proofs.Facts.{steps, if_le, refl}
use Rattle.door_script.specs.{Lines.line_of, Rows.rows}
use Rattle.door_script.proofs.Rows.{Agree, fits_row, row_found}
use Rattle.door_script.proofs.line.read_line.Goals as goal

pub returns-then-line-gt-LINE_MOST_BYTES : goal.returns-then-line-gt-LINE_MOST_BYTES
unfolding line_of
returns-then-line-gt-LINE_MOST_BYTES c = search steps

pub returns : goal.returns
unfolding line_of
returns c =
    let line = c.args.line.now in
    let es = iter_rest c.iter.result in
    let tried = find_from_yields_List (fits_row line) _ _ c.find-row.result c.find-row.ensures.ran (YieldsList-from_slice es refl) (λ x b q k. search (rules, tests)) in
    let agree : Agree es rows = rw c.iter.ensures.rest (refl, refl, (refl, refl, (refl, refl, (refl, refl, (refl, refl, (refl, refl, (refl, refl, (refl, refl, (refl, refl, (refl, refl, (refl, refl, (refl, refl, (refl, refl, (refl, refl, (refl, refl, (refl, refl, (refl, refl, (refl, refl, (refl, refl, tt))))))))))))))))))) in
    if_le _ c.if-line-gt-LINE_MOST_BYTES.false (row_found line es agree c.find-row.result tried _ _ c.map.ensures.cases (λ e y p. search rules))
