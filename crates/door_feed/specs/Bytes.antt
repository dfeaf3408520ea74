-- "Lines end in LF; a last line may lack it. [..] or a line above 120 bytes (LF not counted) answers 15. Line 10001 answers 15 and ends the
-- reading."
use Rattle.std.specs.Prelude.{ℕ, ◌+◌, List, set, eqb, leb, ltb}
use Rattle.base_rules.specs.Basics.{choose, need}
use Rattle.door_feed.specs.declared.{Feed.Feed, Turn.Turn, Turn.TheVariants.Hold, Turn.TheVariants.Ends, Turn.TheVariants.Stop}

abbrev feed : ℕ → ℕ → Feed
feed n h = record { lines = n; held = h }

-- a line holds at most 121 bytes: one more than a readable line has
unfoldable pub turn_of : Feed → ℕ → Turn
turn_of f byte =
    need (ltb f.lines 10000) Stop (
    choose (eqb byte 10) (Ends (feed (f.lines + 1) 0)) (
    choose (leb 121 f.held) (Hold f)
    (Hold (feed f.lines (f.held + 1)))))

unfoldable pub held_after : List ℕ → ℕ → ℕ → List ℕ
held_after buffer held byte = set buffer held byte

unfoldable pub least : ℕ → ℕ → ℕ
least a b = choose (leb a b) a b
