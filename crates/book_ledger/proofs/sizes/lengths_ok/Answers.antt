use Rattle.base_rules.proofs.Facts.{steps, arith}
use Rattle.base_rules.specs.Basics.{◌≡◌, ℕ, ◌+◌, ◌/◌, ◌%◌, min}
use Rattle.book_ledger.specs.Sizes.{lengths_ok}
use Rattle.book_ledger.proofs.sizes.lengths_ok.Goals as goal

-- the library's rounding up is the definition's
words_of : (n : ℕ) → n / 64 + min 1 (n % 64) ≡ (n + 63) / 64
words_of n = omega arith

pub returns-then-domains-ne0 : goal.returns-then-domains-ne0
unfolding lengths_ok
returns-then-domains-ne0 c = search steps depth 12

pub returns-then-entries-ne0 : goal.returns-then-entries-ne0
unfolding lengths_ok
returns-then-entries-ne0 c = search steps depth 12

pub returns : goal.returns
unfolding lengths_ok
returns c = rw (c.div_ceil.ensures, c.bits_of.ensures, words_of) (search steps depth 12)
