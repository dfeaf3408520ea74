-- The column "Effect" of "The calls", a row a call: what an accepted call answers, and all that stands in the lent tables after it, read number by
-- number. A row names the places that the call writes and what it writes there; every other place reads as before. It is said apart from the
-- rules, in the paper's words and codes: `effects` (proofs/Effects) is the theorem that each accepted call does its row and nothing else.
use Rattle.std.specs.Prelude.{ℕ, ◌+◌, ◌-◌, ◌%◌, Bool, true, false, eqb}
use Rattle.base_rules.specs.Basics.{choose}
use Rattle.base_units.specs.{Limits.control_pages, Limits.table_entries, Address.hpa_of}
use Rattle.base_units.specs.declared.address.{Hpa.Hpa, Gpa.Gpa, Pfn.Pfn}
use Rattle.book_stock.specs.Bits.{lowest_unused}
use Rattle.book_ledger.specs.Codes.{NDA, TDR, TDCX, EPT, REG, FREE, NL_MAPPED, MAPPED, PENDING, ASSIGNED, CONFIGURED, BLOCKED_LIFE, TEARDOWN, WRITTEN_BACK}
use Rattle.book_ledger.specs.{Codes.UNINITIALIZED, Codes.INITIALIZED, Codes.RUNNABLE, Tables.Tables, Tables.frame_at}
use Rattle.book_ledger.specs.declared.words.{Frame.Frame, Domain.Domain, Entry.Entry}
use Rattle.base_calls.specs.declared.{Call.Call, Reading.Reading}
use Rattle.call_plan.specs.{Lookup.bit_in, Lookup.root_in, Entries.walk_of, declared.lookup.Subject.Subject}
use Rattle.fact_keeps.specs.Views.{View, view}
use Rattle.fact_theorems.specs.Checks.{record_of, kind_is, window, first_bit, end_bit, arrived, block, index, the_one}
use Rattle.book_walk.specs.Walk.{Walk}

-- ---- a place that becomes something; the others are as they were

abbrev place : {A : Type 0} → ℕ → A → (ℕ → A) → ℕ → A
place n v old k = choose (eqb k n) v (old k)

-- place i of row n, a row having `places` places
abbrev within : {A : Type 0} → ℕ → ℕ → ℕ → A → (ℕ → ℕ → A) → ℕ → ℕ → A
within places n i v old k j = choose (eqb k n) (choose (eqb (j % places) (i % places)) v (old k j)) (old k j)

-- every place of row n
abbrev across : {A : Type 0} → ℕ → A → (ℕ → ℕ → A) → ℕ → ℕ → A
across n v old k j = choose (eqb k n) v (old k j)

abbrev frame_to : Pfn → Frame → View → View
frame_to n f s = record { frame = place n.0 f s.frame; domain = s.domain; control = s.control; entry = s.entry; used = s.used }

abbrev record_to : ℕ → Domain → View → View
record_to r d s = record { frame = s.frame; domain = place r d s.domain; control = s.control; entry = s.entry; used = s.used }

-- every record becomes what f makes of it and of its number
abbrev records_to : (ℕ → Domain → Domain) → View → View
records_to f s = record { frame = s.frame; domain = λ r. f r (s.domain r); control = s.control; entry = s.entry; used = s.used }

abbrev page_to : ℕ → ℕ → Pfn → View → View
page_to r i f s = record { frame = s.frame; domain = s.domain; control = within control_pages r i f.0 s.control; entry = s.entry; used = s.used }

abbrev entry_to : ℕ → ℕ → Entry → View → View
entry_to b i e s = record { frame = s.frame; domain = s.domain; control = s.control; entry = within table_entries b i e s.entry; used = s.used }

abbrev use_to : ℕ → Bool → View → View
use_to b on s = record { frame = s.frame; domain = s.domain; control = s.control; entry = s.entry; used = place b on s.used }

-- ---- what a frame, an entry and a record become

abbrev none : Pfn
none = record { 0 = 0 }

-- of a kind, with an owner and a record's or a table's number: a new frame's epoch and size are 0
abbrev frame : ℕ → Pfn → ℕ → Frame
frame k o n = record { kind = k; owner = o; number = n; epoch = 0; size = 0 }

-- "A frame that becomes NDA loses owner, epoch and numbers (zero)."
abbrev nda : Frame
nda = frame NDA none 0

abbrev since : Frame → ℕ → Frame
since f e = record { kind = f.kind; owner = f.owner; number = f.number; epoch = e; size = f.size }

abbrev entry : ℕ → Pfn → Entry
entry s f = record { state = s; frame = f }

abbrev free_entry : Entry
free_entry = entry FREE none

abbrev life : ℕ → Domain → Domain
life l d = record { key = d.key; life = l; op = d.op; listed = d.listed; children = d.children; epoch = d.epoch; width = d.width }

abbrev op : ℕ → Domain → Domain
op o d = record { key = d.key; life = d.life; op = o; listed = d.listed; children = d.children; epoch = d.epoch; width = d.width }

abbrev epoch : ℕ → Domain → Domain
epoch e d = record { key = d.key; life = d.life; op = d.op; listed = d.listed; children = d.children; epoch = e; width = d.width }

abbrev listed : ℕ → Domain → Domain
listed n d = record { key = d.key; life = d.life; op = d.op; listed = n; children = d.children; epoch = d.epoch; width = d.width }

abbrev children : ℕ → Domain → Domain
children c d = record { key = d.key; life = d.life; op = d.op; listed = d.listed; children = c; epoch = d.epoch; width = d.width }

abbrev new_domain : ℕ → Domain
new_domain key = record { key = key; life = ASSIGNED; op = UNINITIALIZED; listed = 0; children = 0; epoch = 1; width = 0 }

abbrev no_domain : Domain
no_domain = record { key = 0; life = 0; op = 0; listed = 0; children = 0; epoch = 0; width = 0 }

-- "wiped when taken, left as it is when given back": a table, and a record with its control pages and its root
abbrev wipe_block : ℕ → View → View
wipe_block b s = record { frame = s.frame; domain = s.domain; control = s.control; entry = across b free_entry s.entry; used = s.used }

abbrev wipe_pages : ℕ → View → View
wipe_pages r s = record { frame = s.frame; domain = s.domain; control = across r 0 s.control; entry = s.entry; used = s.used }

abbrev take_table : ℕ → View → View
take_table b s = wipe_block b (use_to b true s)

abbrev take_record : ℕ → ℕ → ℕ → View → View
take_record r bit root s = record_to r no_domain (wipe_pages r (wipe_block root (use_to bit true s)))

abbrev give_back : ℕ → View → View
give_back b s = use_to b false s

-- ---- the rows
module _ (base : Hpa) (t : Tables) where
  -- D's record becomes what f makes of it
  abbrev record' : Subject → (Domain → Domain) → View → View
  record' x f s = record_to x.rec (f x.dom) s

  abbrev at : Hpa → Subject
  at d = record_of t (window base t d)

  abbrev domain : Hpa → (Domain → Domain) → View
  domain d f = record' (at d) f (view t)

  abbrev one_more : Domain → Domain
  one_more d = children (d.children + 1) d

  abbrev one_less : Domain → Domain
  one_less d = children (d.children - 1) d

  abbrev walk : Hpa → Gpa → ℕ → Walk
  walk d gpa level = walk_of t (at d) gpa level

  -- the entry that the walk arrives at becomes e
  abbrev entry_on : Walk → Entry → View → View
  entry_on w e s = entry_to (block w) (index w) e s

  -- F becomes a frame of D's tree, one more child, at an entry of a state
  abbrev joins : Subject → Walk → Pfn → ℕ → ℕ → ℕ → View → View
  joins x w f kind number state s = frame_to f (frame kind x.tdr number) (record' x one_more (entry_on w (entry state f) s))

  -- D loses the frame n
  abbrev leaves : Subject → Pfn → View → View
  leaves x n s = frame_to n nda (record' x one_less s)

  -- F becomes TDR; a new record, HKID assigned, uninitialized, epoch 1
  abbrev creates : Pfn → ℕ → ℕ → ℕ → View
  creates f key bit r = frame_to f (frame TDR none r) (record_to r (new_domain key) (take_record r bit (root_in t r) (view t)))

  abbrev new_bit : ℕ
  new_bit = the_one (lowest_unused t.stock (first_bit base t) (end_bit base t))

  abbrev new_table : ℕ
  new_table = the_one (lowest_unused t.stock 0 (first_bit base t))

  -- F becomes TDCX, listed as the next control page
  abbrev enlists : Subject → Pfn → View
  enlists x f = frame_to f (frame TDCX x.tdr 0) (page_to x.rec x.dom.listed f (record' x (λ d. listed (d.listed + 1) (one_more d)) (view t)))

  abbrev adds : Hpa → Gpa → Hpa → ℕ → View
  adds d gpa f state = joins (at d) (walk d gpa 0) (window base t f) REG 0 state (view t)

  -- the walk's entry gets another state and keeps its frame
  abbrev turns : Walk → ℕ → View → View
  turns w state s = entry_on w (entry state (arrived t w).frame) s

  -- codes 4, 5 and 6 are those of 1, 2 and 3, blocked
  abbrev blocks : Subject → Walk → Pfn → View
  blocks x w n = frame_to n (since (frame_at t.frames n) x.dom.epoch) (turns w ((arrived t w).state + 3) (view t))

  abbrev unblocks : Walk → View
  unblocks w = turns w ((arrived t w).state - 3) (view t)

  -- D loses the frame of the walk's entry, and the entry becomes FREE
  abbrev removes : Subject → Walk → View → View
  removes x w s = leaves x (arrived t w).frame (entry_on w free_entry s)

  -- the number of the table that an EPT frame has
  abbrev table_of : Pfn → ℕ
  table_of n = (frame_at t.frames n).number

  abbrev reclaims : Pfn → View
  reclaims n =
      choose (kind_is t n TDR)
      (frame_to n nda (give_back (record_of t n).bit (view t)))
      (choose (kind_is t n EPT)
      (leaves (record_of t (frame_at t.frames n).owner) n (give_back (table_of n) (view t)))
      (leaves (record_of t (frame_at t.frames n).owner) n (view t)))

  -- every record in use, whether or not a TDR names it
  abbrev writes_back : ℕ → Domain → Domain
  writes_back r d = choose ((view t).used (bit_in t r)) (choose (eqb d.life BLOCKED_LIFE) (life WRITTEN_BACK d) d) d

  unfoldable pub effect_of : Call → View
  effect_of (Call.Create f key) = creates (window base t f) key new_bit (new_bit - first_bit base t)
  -- keys configured
  effect_of (Call.KeyConfig d) = domain d (life CONFIGURED)
  effect_of (Call.AddCx d f) = enlists (at d) (window base t f)
  -- initialized
  effect_of (Call.Init d) = domain d (op INITIALIZED)
  -- F becomes EPT with a table; entry NL_MAPPED
  effect_of (Call.SeptAdd d gpa level f) = joins (at d) (walk d gpa level) (window base t f) EPT new_table NL_MAPPED (take_table new_table (view t))
  -- F becomes REG; entry MAPPED, and PENDING
  effect_of (Call.PageAdd d gpa f) = adds d gpa f MAPPED
  -- runnable
  effect_of (Call.Finalize d) = domain d (op RUNNABLE)
  effect_of (Call.PageAug d gpa f) = adds d gpa f PENDING
  -- entry 4, 5 or 6; its frame's epoch := the domain's
  effect_of (Call.Block d gpa level) = blocks (at d) (walk d gpa level) (arrived t (walk d gpa level)).frame
  -- epoch + 1
  effect_of (Call.Track d) = domain d (λ x. epoch (x.epoch + 1) x)
  -- entry 1, 2 or 3
  effect_of (Call.Unblock d gpa level) = unblocks (walk d gpa level)
  -- frame NDA, entry FREE
  effect_of (Call.PageRemove d gpa) = removes (at d) (walk d gpa 0) (view t)
  -- frame NDA, table given back, entry FREE
  effect_of (Call.SeptRemove d gpa level) = removes (at d) (walk d gpa level) (give_back (table_of (arrived t (walk d gpa level)).frame) (view t))
  -- blocked; teardown
  effect_of (Call.FlushDone d) = domain d (life BLOCKED_LIFE)
  effect_of (Call.KeyFree d) = domain d (life TEARDOWN)
  -- F NDA; its table or record given back
  effect_of (Call.Reclaim f) = reclaims (window base t f)
  effect_of (Call.ReadPage f) = view t
  effect_of (Call.ReadEntry d gpa level) = view t
  -- "every domain in blocked becomes blocked and written back"
  effect_of (Call.CacheWb) = records_to writes_back (view t)

  -- ---- what an accepted call reads out: the two that read say what they read
  abbrev nowhere : Hpa
  nowhere = record { 0 = 0 }

  -- "owner hpa (0 if none)": NDA and TDR have no owner
  unfoldable pub owner_of : Frame → Hpa
  owner_of f = choose (eqb f.kind NDA) nowhere (choose (eqb f.kind TDR) nowhere (hpa_of base f.owner))

  -- "hpa (0 if FREE)"
  unfoldable pub leads_to : Entry → Hpa
  leads_to e = choose (eqb e.state FREE) nowhere (hpa_of base e.frame)

  unfoldable pub accepted_of : Call → Reading
  accepted_of (Call.Create f key) = Reading.Done
  accepted_of (Call.KeyConfig d) = Reading.Done
  accepted_of (Call.AddCx d f) = Reading.Done
  accepted_of (Call.Init d) = Reading.Done
  accepted_of (Call.SeptAdd d gpa level f) = Reading.Done
  accepted_of (Call.PageAdd d gpa f) = Reading.Done
  accepted_of (Call.Finalize d) = Reading.Done
  accepted_of (Call.PageAug d gpa f) = Reading.Done
  accepted_of (Call.Block d gpa level) = Reading.Done
  accepted_of (Call.Track d) = Reading.Done
  accepted_of (Call.Unblock d gpa level) = Reading.Done
  accepted_of (Call.PageRemove d gpa) = Reading.Done
  accepted_of (Call.SeptRemove d gpa level) = Reading.Done
  accepted_of (Call.FlushDone d) = Reading.Done
  accepted_of (Call.KeyFree d) = Reading.Done
  accepted_of (Call.Reclaim f) = Reading.Done
  accepted_of (Call.ReadPage f) = Reading.Page (frame_at t.frames (window base t f)).kind (owner_of (frame_at t.frames (window base t f)))
  accepted_of (Call.CacheWb) = Reading.Done
  accepted_of (Call.ReadEntry d gpa level) = Reading.Entry level (arrived t (walk d gpa level)).state (leads_to (arrived t (walk d gpa level)))
