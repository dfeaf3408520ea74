-- What a plan leaves of the lent tables: an answer leaves them as they are, an edit writes what it says, and a sweep goes over every record.
use Rattle.std.specs.Prelude.{ℕ, zero, suc, ◌+◌, ◌/◌, true, false, List, length, eqb, Some, None, Ok, Err}
use Rattle.base_rules.specs.Basics.{choose, given}
use Rattle.base_units.specs.Limits.{record_words, table_entries}
use Rattle.book_stock.specs.{Bits.in_use, Bits.set_use, Wipe.wiped_at}
use Rattle.book_ledger.specs.{Sizes.bit_of, Tables.Tables, Tables.lent, Tables.set_frame, Tables.set_page, Tables.domain_at, Tables.set_domain, Tables.set_entry}
use Rattle.base_calls.specs.{Answers.Answer, declared.Reading.TheVariants.Done}
use Rattle.call_plan.specs.declared.edit.{StockEdit.StockEdit, Edit.Edit, Sweep.Sweep, Deed.TheVariants.Tell, Deed.TheVariants.Do, Deed.TheVariants.Each}
use Rattle.call_plan.specs.Edits.{FrameEdit, PageEdit, DomainEdit, EntryEdit, Plan, with_life}

unfoldable pub after_frame : FrameEdit → List ℕ → List ℕ
after_frame None fs = fs
after_frame (Some (n, f)) fs = set_frame fs n f

unfoldable pub after_page : PageEdit → List ℕ → List ℕ
after_page None ds = ds
after_page (Some (r, i, n)) ds = set_page ds r i n

unfoldable pub after_domain : DomainEdit → List ℕ → List ℕ
after_domain None ds = ds
after_domain (Some (r, d)) ds = set_domain ds r d

unfoldable pub after_entry : EntryEdit → List ℕ → List ℕ
after_entry None es = es
after_entry (Some (at, e)) es = set_entry es at.block at.index e

-- "A record or a table is [..] wiped when taken, left as it is when given back": its in-use bit, its record and its entries
unfoldable pub after_use : StockEdit → List ℕ → List ℕ
after_use (StockEdit.Keep) st = st
after_use (StockEdit.Table b) st = set_use st b true
after_use (StockEdit.Record bit b r) st = set_use st bit true
after_use (StockEdit.Give bit) st = set_use st bit false

unfoldable pub after_record : StockEdit → List ℕ → List ℕ
after_record (StockEdit.Keep) ds = ds
after_record (StockEdit.Table b) ds = ds
after_record (StockEdit.Record bit b r) ds = wiped_at record_words ds r
after_record (StockEdit.Give bit) ds = ds

unfoldable pub after_block : StockEdit → List ℕ → List ℕ
after_block (StockEdit.Keep) es = es
after_block (StockEdit.Table b) es = wiped_at table_entries es b
after_block (StockEdit.Record bit b r) es = wiped_at table_entries es b
after_block (StockEdit.Give bit) es = es

unfoldable pub applied : Edit → Tables → Tables
applied e t =
    lent
    (after_frame e.frame t.frames)
    (after_page e.page (after_domain e.domain (after_record e.stock t.domains)))
    (after_use e.stock t.stock)
    (after_entry e.entry (after_block e.stock t.entries))

-- ---- a sweep: of record r, if it is in use, whether or not a TDR names it. `entries` is how many entries are lent
unfoldable pub swept_at : Sweep → List ℕ → ℕ → ℕ → List ℕ → List ℕ
swept_at w st entries r ds =
    given (bit_of (length ds) entries r) λ bit.
    choose (in_use st bit) (
    given (domain_at ds r) λ d.
    choose (eqb d.life w.from) (
    given (with_life d w.to) (set_domain ds r)) ds) ds

-- .. of the k records from r on, and of all that are lent
unfoldable pub swept_from : Sweep → List ℕ → ℕ → ℕ → ℕ → List ℕ → List ℕ
swept_from w st entries r zero ds = ds
swept_from w st entries r (suc k) ds = swept_from w st entries (r + 1) k (swept_at w st entries r ds)

unfoldable pub swept : Sweep → List ℕ → ℕ → List ℕ → List ℕ
swept w st entries ds = swept_from w st entries 0 (length ds / record_words) ds

-- .. with the tables that it goes over
unfoldable pub swept_record : Sweep → ℕ → Tables → Tables
swept_record w r t = lent t.frames (swept_at w t.stock (length t.entries) r t.domains) t.stock t.entries

unfoldable pub swept_tables : Sweep → Tables → Tables
swept_tables w t = lent t.frames (swept w t.stock (length t.entries) t.domains) t.stock t.entries

-- an answer, with the tables after it
pub record Carried : Type 0 where
  pub answer : Answer
  pub tables : Tables

abbrev pub carried_out : Answer → Tables → Carried
carried_out a t = record { answer = a; tables = t }

unfoldable pub carried : Tables → Plan → Carried
carried t (Err r) = carried_out (Err r) t
carried t (Ok (Tell r)) = carried_out (Ok r) t
carried t (Ok (Do e)) = carried_out (Ok Done) (applied e t)
carried t (Ok (Each w)) = carried_out (Ok Done) (swept_tables w t)
