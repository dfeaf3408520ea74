use Rattle.door_answers.proofs.Pen.+number.Given as goal

abbrev pub decreases-number : goal.decreases-number
decreases-number l = l.n
