-- The sizes of what is lent, by the lengths of the lent slices, and document 01's limits on them.
use Rattle.std.specs.Prelude.{ℕ, ◌+◌, ◌-◌, ◌/◌, ◌%◌, Bool, false, eqb, ltb}
use Rattle.base_rules.specs.Basics.{choose, need, given}
use Rattle.book_stock.specs.Bits.{word_bits}
use Rattle.base_units.specs.declared.address.Hpa.{Hpa}
use Rattle.base_units.specs.Limits as limits
use Rattle.book_ledger.specs.declared.sizes.Sizes.{Sizes}

-- a block is 512 entries: tables first, then the records' roots
unfoldable pub tables_of : ℕ → ℕ → ℕ
tables_of domains entries = entries / limits.table_entries - domains / limits.record_words

-- "Each says whether it is in use": a bit for each block. The bits of the tables, then one for each record; a record beyond the stock has
-- none: the bit after the last
abbrev pub bits_of : ℕ → ℕ → ℕ
bits_of domains entries = entries / limits.table_entries

unfoldable pub bit_of : ℕ → ℕ → ℕ → ℕ
bit_of domains entries r = choose (ltb r (domains / limits.record_words)) (tables_of domains entries + r) (bits_of domains entries)

-- the block of record r's root; a record beyond the stock has none: the block after the last
unfoldable pub root_of : ℕ → ℕ → ℕ → ℕ
root_of domains entries r = choose (ltb r (domains / limits.record_words)) (tables_of domains entries + r) (entries / limits.table_entries)

unfoldable pub sizes_of : ℕ → ℕ → ℕ → Sizes
sizes_of frames domains entries = record {
  frames = frames;
  records = domains / limits.record_words;
  tables = tables_of domains entries;
}

-- whole records, whole blocks, and as many words as the in-use bits take
unfoldable pub lengths_ok : ℕ → ℕ → ℕ → Bool
lengths_ok domains stock entries =
    need (eqb (domains % limits.record_words) 0) false (
    need (eqb (entries % limits.table_entries) 0) false
    (eqb stock ((bits_of domains entries + (word_bits - 1)) / word_bits)))

-- answer 13: "lent sizes or base outside the limits"
unfoldable pub sizes_ok : Hpa → ℕ → ℕ → ℕ → ℕ → Bool
sizes_ok base frames domains stock entries =
    given (sizes_of frames domains entries) λ s.
    need (limits.base_ok base) false (
    need (limits.frames_ok s.frames) false (
    need (limits.records_ok s.records) false (
    need (limits.tables_ok s.tables) false
    (lengths_ok domains stock entries))))
