-- What an accepted call writes, in the paper's words: an edit of a frame, of a control page, of a domain's scalars, of the stock and of an
-- entry, each or none.
use Rattle.std.specs.Prelude.{Option, Some, Result}
use Rattle.base_rules.specs.Basics.{ℕ}
use Rattle.base_units.specs.declared.address.Pfn.{Pfn}
use Rattle.book_ledger.specs.Codes.{NDA, TDR, TDCX, EPT, REG, FREE}
use Rattle.book_ledger.specs.declared.{words.Frame.Frame, words.Domain.Domain, words.Entry.Entry, tables.Slot.Slot}
use Rattle.book_ledger.specs.Tables.{slot}
use Rattle.base_calls.specs.declared.Refusal.{Refusal}
use Rattle.call_plan.specs.declared.edit.Deed.{Deed}

-- what becomes of a frame; of a record's control page, by its place in the list; of a record's scalars; of an entry
abbrev pub FrameEdit : Type 0
FrameEdit = Option (Pfn × Frame)

abbrev pub PageEdit : Type 0
PageEdit = Option (ℕ × ℕ × Pfn)

abbrev pub DomainEdit : Type 0
DomainEdit = Option (ℕ × Domain)

abbrev pub EntryEdit : Type 0
EntryEdit = Option (Slot × Entry)

abbrev pub to_entry : ℕ → ℕ → Entry → EntryEdit
to_entry b i e = Some (slot b i, e)

-- what a call comes to: its deed, or the refusal
abbrev pub Plan : Type 0
Plan = Result Deed Refusal

-- ---- frames
abbrev none : Pfn
none = record { 0 = 0 }

-- "A frame that becomes NDA loses owner, epoch and numbers (zero)."
abbrev pub freed : Frame
freed = record { kind = NDA; owner = none; number = 0; epoch = 0; size = 0 }

-- a new TDR with its record's number, TDCX, EPT with its table, REG; a new EPT or REG has epoch 0, and every size is 0
abbrev pub new_tdr : ℕ → Frame
new_tdr r = record { kind = TDR; owner = none; number = r; epoch = 0; size = 0 }

abbrev pub new_tdcx : Pfn → Frame
new_tdcx tdr = record { kind = TDCX; owner = tdr; number = 0; epoch = 0; size = 0 }

abbrev pub new_ept : Pfn → ℕ → Frame
new_ept tdr table = record { kind = EPT; owner = tdr; number = table; epoch = 0; size = 0 }

abbrev pub new_reg : Pfn → Frame
new_reg tdr = record { kind = REG; owner = tdr; number = 0; epoch = 0; size = 0 }

abbrev pub with_frame_epoch : Frame → ℕ → Frame
with_frame_epoch f e = record { kind = f.kind; owner = f.owner; number = f.number; epoch = e; size = f.size }

-- ---- entries
abbrev pub entry : ℕ → Pfn → Entry
entry s f = record { state = s; frame = f }

abbrev pub free_entry : Entry
free_entry = entry FREE none

-- ---- domains
abbrev pub with_life : Domain → ℕ → Domain
with_life d l = record { key = d.key; life = l; op = d.op; listed = d.listed; children = d.children; epoch = d.epoch; width = d.width }

abbrev pub with_op : Domain → ℕ → Domain
with_op d o = record { key = d.key; life = d.life; op = o; listed = d.listed; children = d.children; epoch = d.epoch; width = d.width }

abbrev pub with_epoch : Domain → ℕ → Domain
with_epoch d e = record { key = d.key; life = d.life; op = d.op; listed = d.listed; children = d.children; epoch = e; width = d.width }

abbrev pub with_counts : Domain → ℕ → ℕ → Domain
with_counts d listed children = record { key = d.key; life = d.life; op = d.op; listed = listed; children = children; epoch = d.epoch; width = d.width }
