use Rattle.base_rules.proofs.Facts.{◌∙◌, ap}
use Rattle.base_calls.specs.declared.Ask.{Ask}
use Rattle.book_ledger.specs.Lent.{tables_of}
use Rattle.door_asks.specs.Asks.{ask_of}
use Rattle.reefnettle.specs.Door.{door_of, shown}
use Rattle.reefnettle.proofs.ask.Goals as goal

-- what the three contracts come to
pub returns-clause-door : goal.returns-clause-door
unfolding door_of
returns-clause-door c =
    rw c.from.ensures
    (ap shown c.enter-answer.ensures.outcome ∙ ap (λ (a : Ask). shown (ask_of c.args.t.now.base (tables_of c.args.t.now) c.args.g.now a)) c.ask_of-ask.ensures)
