-- A loop over a list takes its elements one by one.
use Rattle.base_rules.specs.Basics.{◌≡◌, List, ◌∷◌, ℕ, ◌+◌, ◌<◌, length, get_or, drop}
use Rattle.base_rules.proofs.Facts.{add-one, drop-cons}

pub next : (xs : List ℕ) (i : ℕ) → i < length xs → drop i xs ≡ get_or xs i 0 ∷ drop (i + 1) xs
next xs i h = rw (add-one, drop-cons xs i 0)
