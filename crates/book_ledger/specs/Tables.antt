-- What the lent words say, at every number: a place outside says zero, and a write there changes nothing.
use Rattle.std.specs.Prelude.{ℕ, ◌+◌, ◌*◌, ◌%◌, List, get_or, set}
use Rattle.base_units.specs.{Limits.table_entries, Limits.control_pages, Limits.record_words, declared.address.Pfn.Pfn}
use Rattle.book_ledger.specs.Words.{frame_from, frame_word, domain_from, domain_word, entry_from, entry_word}
use Rattle.book_ledger.specs.declared.{words.Frame.Frame, words.Domain.Domain, words.Entry.Entry, tables.Slot.Slot}

-- the four lent slices. Block t is table t, and block `tables + r` the root of record r
pub record Tables : Type 0 where
  pub frames : List ℕ
  pub domains : List ℕ
  pub stock : List ℕ
  pub entries : List ℕ

abbrev pub lent : List ℕ → List ℕ → List ℕ → List ℕ → Tables
lent fs ds st es = record { frames = fs; domains = ds; stock = st; entries = es }

unfoldable pub frame_at : List ℕ → Pfn → Frame
frame_at fs n = frame_from (get_or fs n.0 0)

unfoldable pub set_frame : List ℕ → Pfn → Frame → List ℕ
set_frame fs n f = set fs n.0 (frame_word f)

-- a record: a word of scalars, then a word for each control page
unfoldable pub record_word : List ℕ → ℕ → ℕ → ℕ
record_word ds r k = get_or ds (r * record_words + k % record_words) 0

unfoldable pub set_record_word : List ℕ → ℕ → ℕ → ℕ → List ℕ
set_record_word ds r k w = set ds (r * record_words + k % record_words) w

unfoldable pub domain_at : List ℕ → ℕ → Domain
domain_at ds r = domain_from (record_word ds r 0)

unfoldable pub set_domain : List ℕ → ℕ → Domain → List ℕ
set_domain ds r d = set_record_word ds r 0 (domain_word d)

unfoldable pub page_at : List ℕ → ℕ → ℕ → Pfn
page_at ds r i = record { 0 = record_word ds r (1 + i % control_pages) }

unfoldable pub set_page : List ℕ → ℕ → ℕ → Pfn → List ℕ
set_page ds r i n = set_record_word ds r (1 + i % control_pages) n.0

-- the place of entry i of block b
abbrev pub slot : ℕ → ℕ → Slot
slot b i = record { block = b; index = i }

-- entry i of a block
unfoldable pub entry_at : List ℕ → ℕ → ℕ → Entry
entry_at es b i = entry_from (get_or es (b * table_entries + i % table_entries) 0)

unfoldable pub set_entry : List ℕ → ℕ → ℕ → Entry → List ℕ
set_entry es b i e = set es (b * table_entries + i % table_entries) (entry_word e)
