-- The lent tables, read number by number.
use Rattle.std.specs.Prelude.{Option}
use Rattle.base_rules.specs.Basics.{ℕ, Bool, length}
use Rattle.base_units.specs.{Address.frame_of, declared.address.Hpa.Hpa, declared.address.Pfn.Pfn}
use Rattle.book_stock.specs.Bits.{in_use}
use Rattle.book_ledger.specs.Tables.{Tables, frame_at, domain_at, page_at, entry_at}
use Rattle.book_ledger.specs.declared.words.{Frame.Frame, Domain.Domain, Entry.Entry}

-- a frame, a record, control page i of record r, entry i of block b, and whether block b is in use
pub record View : Type 0 where
  pub frame : ℕ → Frame
  pub domain : ℕ → Domain
  pub control : ℕ → ℕ → ℕ
  pub entry : ℕ → ℕ → Entry
  pub used : ℕ → Bool

abbrev pub kind : View → ℕ → ℕ
kind s f = (s.frame f).kind

abbrev pub owner : View → ℕ → ℕ
owner s f = (s.frame f).owner.0

abbrev pub number : View → ℕ → ℕ
number s f = (s.frame f).number

abbrev pub life : View → ℕ → ℕ
life s r = (s.domain r).life

abbrev pub key : View → ℕ → ℕ
key s r = (s.domain r).key

abbrev pub op : View → ℕ → ℕ
op s r = (s.domain r).op

abbrev pub listed : View → ℕ → ℕ
listed s r = (s.domain r).listed

abbrev pub children : View → ℕ → ℕ
children s r = (s.domain r).children

abbrev pub frame : ℕ → Pfn
frame n = record { 0 = n }

abbrev pub view : Tables → View
view t = record {
  frame = λ f. frame_at t.frames (frame f);
  domain = domain_at t.domains;
  control = λ r i. (page_at t.domains r i).0;
  entry = entry_at t.entries;
  used = in_use t.stock;
}

abbrev pub place_in : Hpa → Tables → Hpa → Option Pfn
place_in base t hpa = frame_of base (length t.frames) hpa
