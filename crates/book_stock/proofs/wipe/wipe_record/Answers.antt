use Rattle.base_rules.proofs.Facts.{steps, refl}
use Rattle.book_stock.specs.Wipe.{wiped_at}
use Rattle.book_stock.proofs.Wipes.{wiped_as}
use Rattle.book_stock.proofs.wipe.wipe_record.Goals as goal

pub returns-then-number-domains : goal.returns-then-number-domains
unfolding wiped_at
returns-then-number-domains c = wiped_as _ _ _ c.if-number-domains.true refl refl (c.fill.ensures.after (λ y e. e))

pub returns-else-number-domains : goal.returns-else-number-domains
unfolding wiped_at
returns-else-number-domains c = search steps
