-- For each row of "The calls", its "Needs" as a list of checks in the paper's order. A reader ticks them off against the table; the
-- theorem `answered` (proofs/Answers) says that a call's number is that of the first check that fails.
use Rattle.std.specs.Prelude.{ℕ, Bool, true, false, not, List, [], ◌∷◌, length, eqb, ltb, Option}
use Rattle.base_rules.specs.Basics.{choose, on_option}
use Rattle.base_units.specs.{Limits.between, Limits.control_pages, Limits.epoch_most, Limits.key_ok, Address.frame_of}
use Rattle.base_levels.specs.Level.{top_level, level_ok, gpa_fits}
use Rattle.base_units.specs.declared.address.{Hpa.Hpa, Gpa.Gpa, Pfn.Pfn}
use Rattle.book_gauge.specs.{Marks.marks_ok, declared.Gauge.Gauge}
use Rattle.book_stock.specs.Bits.{in_use, lowest_unused}
use Rattle.book_ledger.specs.Codes.{NDA, TDR, EPT, FREE, NL_MAPPED, PENDING, NL_BLOCKED, BLOCKED, PENDING_BLOCKED, ASSIGNED, CONFIGURED, WRITTEN_BACK}
use Rattle.book_ledger.specs.{Codes.TEARDOWN, Codes.UNINITIALIZED, Codes.INITIALIZED, Codes.RUNNABLE, Sizes.tables_of, Sizes.bits_of}
use Rattle.book_range.specs.Range.{lent_ok}
use Rattle.book_ledger.specs.{Tables.Tables, Tables.frame_at, Tables.domain_at, Tables.entry_at, declared.words.Entry.Entry}
use Rattle.book_walk.specs.Walk.{own_frame, on_walk, Walk}
use Rattle.base_calls.specs.declared.Call.{Call}
use Rattle.call_plan.specs.{Lookup.is_nda, Lookup.bit_in, Lookup.root_in, Entries.walk_of, Entries.is_tracked, Entries.table_empty}
use Rattle.call_domains.specs.Domains.{key_unused}
use Rattle.call_plan.specs.declared.lookup.Subject.{Subject}
use Rattle.fact_theorems.specs.Order.{Reason, tables, marks, operand, domain, record', lifecycle, pages, op_state, offered, key, stopped, foreign, entry}
use Rattle.fact_theorems.specs.Order.{untracked, emptied, remain, stock, epoch, frame, count, Check, check}

-- ---- the words of the table
-- an hpa is one of the window's, and the frame that it then names
unfoldable pub in_window : Hpa → ℕ → Hpa → Bool
in_window base frames hpa = on_option (frame_of base frames hpa) false λ n. true

unfoldable pub named : Hpa → ℕ → Hpa → Pfn
named base frames hpa = on_option (frame_of base frames hpa) (record { 0 = 0 }) λ n. n

-- the domain that the TDR n names
abbrev pub record_of : Tables → Pfn → Subject
record_of t n = record {
  tdr = n;
  rec = (frame_at t.frames n).number;
  bit = bit_in t (frame_at t.frames n).number;
  root = root_in t (frame_at t.frames n).number;
  top = top_level;
  dom = domain_at t.domains (frame_at t.frames n).number;
}

abbrev pub kind_is : Tables → Pfn → ℕ → Bool
kind_is t n k = eqb (frame_at t.frames n).kind k

-- whether a look through the stock found a bit, and which
abbrev pub has_one : Option ℕ → Bool
has_one l = on_option l false λ b. true

unfoldable pub the_one : Option ℕ → ℕ
the_one l = on_option l 0 λ b. b

-- how a walk ended, and the entry that it arrived at
unfoldable pub goes_on : Walk → Bool
goes_on w = on_walk w (λ l s. false) true λ b i. true

unfoldable pub follows : Walk → Bool
follows w = on_walk w (λ l s. true) false λ b i. true

unfoldable pub block : Walk → ℕ
block w = on_walk w (λ l s. 0) 0 λ b i. b

unfoldable pub index : Walk → ℕ
index w = on_walk w (λ l s. 0) 0 λ b i. i

abbrev pub arrived : Tables → Walk → Entry
arrived t w = entry_at t.entries (block w) (index w)

-- ---- checks that several rows share, and what comes after them
abbrev pub spot : Hpa → Tables → Hpa → Gpa → ℕ → ℕ → List Check → List Check
spot base t d gpa level least rest =
    check operand (in_window base (length t.frames) d)
    ∷ check operand (gpa_fits gpa level)
    ∷ check operand (level_ok least level)
    ∷ rest

abbrev pub is_domain : Tables → Pfn → List Check → List Check
is_domain t n rest = check domain (kind_is t n TDR) ∷ check record' (in_use t.stock (record_of t n).bit) ∷ rest

abbrev pub built : Tables → Pfn → ℕ → ℕ → List Check → List Check
built t n least most rest =
    is_domain t n (
    check lifecycle (eqb (record_of t n).dom.life CONFIGURED)
    ∷ check pages (eqb (record_of t n).dom.listed control_pages)
    ∷ check op_state (between least (record_of t n).dom.op most)
    ∷ rest)

abbrev pub live : Tables → Pfn → List Check → List Check
live t n rest = built t n INITIALIZED RUNNABLE rest

abbrev pub walked : Walk → List Check → List Check
walked w rest = check stopped (goes_on w) ∷ check foreign (follows w) ∷ rest

abbrev pub on_entry : Tables → Subject → Gpa → ℕ → ℕ → ℕ → (Entry → List Check) → List Check
on_entry t x gpa level least most rest =
    walked (walk_of t x gpa level) (
    check entry (between least (arrived t (walk_of t x gpa level)).state most)
    ∷ rest (arrived t (walk_of t x gpa level)))

-- a frame blocked, unblocked or removed, for a reason w
abbrev pub own : Reason → Tables → Subject → Entry → List Check → List Check
own w t x e rest = check w (own_frame t.frames t.stock x.tdr e) ∷ rest

abbrev pub room : Tables → Subject → List Check
room t x = check count (ltb x.dom.children (length t.frames)) ∷ []

abbrev pub has_child : Subject → List Check
has_child x = check count (not (eqb x.dom.children 0)) ∷ []

-- ---- the rows
module _ (base : Hpa) (t : Tables) where
  abbrev pub window : Hpa → Pfn
  window hpa = named base (length t.frames) hpa

  abbrev pub inside : Hpa → List Check → List Check
  inside hpa rest = check operand (in_window base (length t.frames) hpa) ∷ rest

  abbrev pub domain_at_hpa : Hpa → Subject
  domain_at_hpa d = record_of t (window d)

  -- the in-use bits of the tables stand below these, and those of the records between them
  abbrev pub first_bit : ℕ
  first_bit = tables_of (length t.domains) (length t.entries)

  abbrev pub end_bit : ℕ
  end_bit = bits_of (length t.domains) (length t.entries)

  -- reclaim of a TDR, and of another frame: "an owner's or a TDR F's 14, 3, 9, an EPT's table's or the count's 14"
  abbrev pub in_teardown : Pfn → List Check → List Check
  in_teardown n rest =
      check record' (kind_is t n TDR)
      ∷ check record' (in_use t.stock (record_of t n).bit)
      ∷ check lifecycle (eqb (record_of t n).dom.life TEARDOWN)
      ∷ rest

  abbrev pub of_tdr : Pfn → List Check
  of_tdr n = in_teardown n (check remain (eqb (record_of t n).dom.children 0) ∷ [])

  abbrev pub of_child : Pfn → List Check
  of_child n =
      in_teardown (frame_at t.frames n).owner (
      check count (choose (kind_is t n EPT) (in_use t.stock (frame_at t.frames n).number) true)
      ∷ has_child (record_of t (frame_at t.frames n).owner))

  unfoldable pub checks_of : Call → List Check
  checks_of (Call.Create f k) =
      inside f (
      check operand (key_ok k)
      ∷ check offered (is_nda t.frames (window f))
      ∷ check key (key_unused t.domains t.stock first_bit end_bit k)
      ∷ check stock (has_one (lowest_unused t.stock first_bit end_bit))
      ∷ [])
  checks_of (Call.KeyConfig d) = inside d (is_domain t (window d) (check lifecycle (between ASSIGNED (domain_at_hpa d).dom.life ASSIGNED) ∷ []))
  checks_of (Call.AddCx d f) =
      inside d (
      inside f (
      is_domain t (window d) (
      check lifecycle (eqb (domain_at_hpa d).dom.life CONFIGURED)
      ∷ check pages (ltb (domain_at_hpa d).dom.listed control_pages)
      ∷ check offered (is_nda t.frames (window f))
      ∷ room t (domain_at_hpa d))))
  checks_of (Call.Init d) = inside d (built t (window d) UNINITIALIZED UNINITIALIZED [])
  checks_of (Call.SeptAdd d gpa level f) =
      spot base t d gpa level 1 (
      inside f (
      live t (window d) (
      check offered (is_nda t.frames (window f))
      ∷ on_entry t (domain_at_hpa d) gpa level FREE FREE λ e.
      check stock (has_one (lowest_unused t.stock 0 first_bit))
      ∷ room t (domain_at_hpa d))))
  checks_of (Call.PageAdd d gpa f) =
      spot base t d gpa 0 0 (
      inside f (
      built t (window d) INITIALIZED INITIALIZED (
      check offered (is_nda t.frames (window f))
      ∷ on_entry t (domain_at_hpa d) gpa 0 FREE FREE λ e. room t (domain_at_hpa d))))
  checks_of (Call.Finalize d) = inside d (built t (window d) INITIALIZED INITIALIZED [])
  checks_of (Call.PageAug d gpa f) =
      spot base t d gpa 0 0 (
      inside f (
      built t (window d) RUNNABLE RUNNABLE (
      check offered (is_nda t.frames (window f))
      ∷ on_entry t (domain_at_hpa d) gpa 0 FREE FREE λ e. room t (domain_at_hpa d))))
  checks_of (Call.Block d gpa level) =
      spot base t d gpa level 0 (
      live t (window d) (
      on_entry t (domain_at_hpa d) gpa level NL_MAPPED PENDING λ e.
      own frame t (domain_at_hpa d) e []))
  checks_of (Call.Track d) = inside d (live t (window d) (check epoch (ltb (domain_at_hpa d).dom.epoch epoch_most) ∷ []))
  checks_of (Call.Unblock d gpa level) =
      spot base t d gpa level 0 (
      live t (window d) (
      on_entry t (domain_at_hpa d) gpa level NL_BLOCKED PENDING_BLOCKED λ e.
      check untracked (is_tracked t.frames e.frame (domain_at_hpa d))
      ∷ own frame t (domain_at_hpa d) e []))
  checks_of (Call.PageRemove d gpa) =
      spot base t d gpa 0 0 (
      live t (window d) (
      on_entry t (domain_at_hpa d) gpa 0 BLOCKED PENDING_BLOCKED λ e.
      check untracked (is_tracked t.frames e.frame (domain_at_hpa d))
      ∷ own frame t (domain_at_hpa d) e (has_child (domain_at_hpa d))))
  checks_of (Call.SeptRemove d gpa level) =
      spot base t d gpa level 1 (
      live t (window d) (
      on_entry t (domain_at_hpa d) gpa level NL_BLOCKED NL_BLOCKED λ e.
      check untracked (is_tracked t.frames e.frame (domain_at_hpa d))
      ∷ own emptied t (domain_at_hpa d) e (
      check remain (table_empty t.entries (frame_at t.frames e.frame).number)
      ∷ has_child (domain_at_hpa d))))
  checks_of (Call.FlushDone d) = inside d (is_domain t (window d) (check lifecycle (between ASSIGNED (domain_at_hpa d).dom.life CONFIGURED) ∷ []))
  checks_of (Call.KeyFree d) = inside d (is_domain t (window d) (check lifecycle (between WRITTEN_BACK (domain_at_hpa d).dom.life WRITTEN_BACK) ∷ []))
  checks_of (Call.Reclaim f) =
      inside f (
      check domain (not (kind_is t (window f) NDA))
      ∷ choose (kind_is t (window f) TDR) (of_tdr (window f)) (of_child (window f)))
  checks_of (Call.ReadPage f) = inside f []
  checks_of (Call.ReadEntry d gpa level) = spot base t d gpa level 0 (live t (window d) (walked (walk_of t (domain_at_hpa d) gpa level) []))
  -- request 5: only 13
  checks_of (Call.CacheWb) = []

-- the calls that read something out where they are accepted
unfoldable pub reads : Call → Bool
reads (Call.Create f k) = false
reads (Call.KeyConfig d) = false
reads (Call.AddCx d f) = false
reads (Call.Init d) = false
reads (Call.SeptAdd d gpa level f) = false
reads (Call.PageAdd d gpa f) = false
reads (Call.Finalize d) = false
reads (Call.PageAug d gpa f) = false
reads (Call.Block d gpa level) = false
reads (Call.Track d) = false
reads (Call.Unblock d gpa level) = false
reads (Call.PageRemove d gpa) = false
reads (Call.SeptRemove d gpa level) = false
reads (Call.FlushDone d) = false
reads (Call.KeyFree d) = false
reads (Call.Reclaim f) = false
reads (Call.ReadPage f) = true
reads (Call.ReadEntry d gpa level) = true
reads (Call.CacheWb) = false

-- answer 13 first, for every call
abbrev pub all_checks : Hpa → Tables → Gauge → Call → List Check
all_checks base t g c =
    check tables (lent_ok base t)
    ∷ check marks (marks_ok g.raise g.clear (length t.frames))
    ∷ checks_of base t c
