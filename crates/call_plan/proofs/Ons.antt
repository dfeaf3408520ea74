-- One step down a rule of a call, by the case of a callee's answer: those of any rule, and those of a walk's end.
pub use Rattle.base_rules.proofs.Facts.{rules}
use Rattle.base_rules.proofs.Ons.{ons as cases}
use Rattle.book_walk.proofs.Walks.{walks}

pub ruleset ons = (walks, cases)
