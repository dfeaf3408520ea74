use Rattle.base_rules.proofs.Facts.{steps}
use Rattle.door_feed.specs.Bytes.{turn_of}
use Rattle.door_feed.proofs.Feed.turn_of.Goals as goal

pub returns-then-self-ge-LINES_MOST : goal.returns-then-self-ge-LINES_MOST
unfolding turn_of
returns-then-self-ge-LINES_MOST c = search steps depth 12

pub returns-then-byte-eq-LF : goal.returns-then-byte-eq-LF
unfolding turn_of
returns-then-byte-eq-LF c = search steps depth 12

pub returns-then-self-ge-HELD_MOST : goal.returns-then-self-ge-HELD_MOST
unfolding turn_of
returns-then-self-ge-HELD_MOST c = search steps depth 12

pub returns : goal.returns
unfolding turn_of
returns c = search steps depth 12
