use Rattle.std.proofs.Common.{rules, tests, eqb}
use Rattle.std.proofs.lemmas.Iterator.Consumers.{nth_from_yields_List}
use Rattle.std.proofs.lemmas.Iterator.Splits.{YieldsList-from_slice_split}
use Rattle.door_script.specs.Text.{tab}
use Rattle.door_script.proofs.Marks.{number_found}
use Rattle.door_script.proofs.line.number_in.Goals as goal

pub returns : goal.returns
returns c =
    let line = c.args.line.now in
    let cut = c.split.ensures in
    rw c.unwrap_or.ensures (number_found line c.args.index c.nth-field.result _
    (nth_from_yields_List _ _ _ c.nth-field.ensures.ran (YieldsList-from_slice_split _ (λ b. eqb b tab) line cut.rest cut.done cut.closure (λ x b q k. search (rules, tests))))
    c.and_then.ensures)
