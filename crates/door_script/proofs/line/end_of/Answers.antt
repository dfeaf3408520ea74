use Rattle.std.proofs.Common.{◌≡◌, rules, tests}
use Rattle.std.proofs.lemmas.Iterator.{IsFirst-from_position, YieldsList-from_slice}
use Rattle.base_rules.proofs.Facts.{refl}
use Rattle.door_script.proofs.Marks.{end_found, part_from}
use Rattle.door_script.proofs.line.end_of.Goals as goal

pub returns : goal.returns
returns c =
    let rest = c.unwrap_or-rest.result.now in
    let mark = c.args.mark in
    let found = IsFirst-from_position _ _ _ (λ b. b ≡ mark) (λ b. b ≡ mark → ⊥) c.position-end.ensures.ran (YieldsList-from_slice rest cc)
    (λ x q k. search (rules, tests)) (λ x q k. search (rules, tests)) in
    rw (c.unwrap_or.ensures, end_found mark rest _ found, part_from c.args.text.now c.args.from _ _ c.unwrap_or-rest.ensures refl c.get.ensures.lookup.0) refl
