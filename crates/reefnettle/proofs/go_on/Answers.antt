use Rattle.reefnettle.proofs.Nexts.{next_told}
use Rattle.reefnettle.proofs.go_on.Goals as goal

pub returns-clause-door : goal.returns-clause-door
returns-clause-door c = next_told _ _ _ _ c.ask_of-ask.ensures c.next_ask-n.ensures.next c.from.ensures
