use Rattle.base_rules.proofs.Facts.{steps, refl}
use Rattle.book_stock.specs.Wipe.{wiped_at}
use Rattle.book_stock.proofs.Wipes.{wiped_as}
use Rattle.book_stock.proofs.wipe.wipe_block.Goals as goal

pub returns-then-block-entries : goal.returns-then-block-entries
unfolding wiped_at
returns-then-block-entries c = wiped_as _ _ _ c.if-block-entries.true refl refl (c.fill.ensures.after (λ y e. e))

pub returns-else-block-entries : goal.returns-else-block-entries
unfolding wiped_at
returns-else-block-entries c = search steps
