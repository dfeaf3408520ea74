use Rattle.base_rules.proofs.Facts.{ap, ◌∙◌}
use Rattle.door_answers.specs.Answers.{held}
use Rattle.door_answers.proofs.Writes.{number_one, number_more}
use Rattle.door_answers.proofs.Pen.+number.Goals as goal
use Rattle.door_answers.proofs.Pen.+number.Goals.{then-n-ge10, else-n-ge10}

pub returns-clause-wrote : goal.returns-clause-wrote
returns-clause-wrote t c =
    elim c.if-n-ge10.branch [
      | then-n-ge10 w ↦ number_more _ _ w.if-n-ge10.true (ap held w.self-is ∙ w.number.ensures.wrote) c.put.ensures.wrote
      | else-n-ge10 w ↦ number_one _ _ w.if-n-ge10.false (ap held w.self-is) c.put.ensures.wrote
    ]
