-- "wiped when taken": block b of a list of blocks that are `width` long, all zeros. A block that the list lacks changes nothing.
use Rattle.std.specs.Prelude.{ℕ, ◌+◌, ◌*◌, ◌/◌, List, ◌++◌, length, take, drop, replicate, ltb}
use Rattle.base_rules.specs.Basics.{choose}

unfoldable pub wiped_at : ℕ → List ℕ → ℕ → List ℕ
wiped_at width xs b =
    choose (ltb b (length xs / width))
    (take (b * width) xs ++ (replicate width 0 ++ drop (b * width + width) xs))
    xs
