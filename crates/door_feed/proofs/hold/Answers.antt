use Rattle.base_rules.proofs.Facts.{set_out, rules}
use Rattle.door_feed.specs.Bytes.{held_after}
use Rattle.door_feed.proofs.hold.Goals as goal

pub returns-then-held-buffer : goal.returns-then-held-buffer
unfolding held_after
returns-then-held-buffer c = search rules

pub returns-else-held-buffer : goal.returns-else-held-buffer
unfolding held_after
returns-else-held-buffer c = rw (set_out _ _ _ c.if-held-buffer.false)
