-- The states that calls reach from a fresh start, and document 01's third demand of them.
use Rattle.base_rules.specs.Basics.{choose, on_option}
use Rattle.std.specs.Prelude.{Float, ℕ, ◌≡◌, true, List, [], eqb, length, Option, Some, None}
use Rattle.base_levels.specs.Level.{levels}
use Rattle.base_units.specs.{Limits.table_entries, declared.address.Hpa.Hpa, declared.address.Pfn.Pfn}
use Rattle.book_gauge.specs.{Marks.marks_ok, declared.Gauge.Gauge}
use Rattle.book_ledger.specs.{Codes.NDA, Codes.TDR, Codes.TEARDOWN, Sizes.tables_of, Tables.Tables}
use Rattle.base_calls.specs.{Answers.number_of, declared.Call.Call}
use Rattle.call_host.specs.Calls.{Outcome, call_of, reset_of, marks_of}
use Rattle.fact_ownership.specs.Owned.{Extent, Found, found, finds, times, Owns, Keyed, without, Belongs, Untouched, WrittenBack}
use Rattle.fact_keeps.specs.Views.{kind, owner, number, life, frame, view, place_in}

-- ---- the lent tables, read number by number

abbrev pub extent : Tables → Extent
extent t = record { tables = tables_of (length t.domains) (length t.entries); wide = table_entries; deep = length levels }

-- "its listed control pages and those a new walk of its tree finds"
abbrev pub found_in : Tables → ℕ → List Found
found_in t d = finds (extent t) (view t) d

-- ---- whom a call is on: D, or F where it takes no D, or no one domain; two calls matter to what is left of a domain whose key is freed

pub data Role : Type 0 where
  on : Hpa → Role
  frees : Hpa → Role
  reclaims : Hpa → Role
  each : Role

unfoldable pub role_of : Call → Role
role_of (Call.KeyFree d) = frees d
role_of (Call.Reclaim f) = reclaims f
role_of (Call.Create f key) = on f
role_of (Call.KeyConfig d) = on d
role_of (Call.AddCx d f) = on d
role_of (Call.Init d) = on d
role_of (Call.SeptAdd d gpa level f) = on d
role_of (Call.PageAdd d gpa f) = on d
role_of (Call.Finalize d) = on d
role_of (Call.PageAug d gpa f) = on d
role_of (Call.Block d gpa level) = on d
role_of (Call.Track d) = on d
role_of (Call.Unblock d gpa level) = on d
role_of (Call.PageRemove d gpa) = on d
role_of (Call.SeptRemove d gpa level) = on d
role_of (Call.FlushDone d) = on d
role_of (Call.ReadPage f) = on f
role_of (Call.ReadEntry d gpa level) = on d
role_of (Call.CacheWb) = each

-- "on one domain": its TDR's frame. A reclaim of a TDR is on that domain, and of another frame on its owner
unfoldable pub subject : Hpa → Tables → Role → Option Pfn
subject base t (on d) = place_in base t d
subject base t (frees d) = place_in base t d
subject base t (reclaims f) = on_option (place_in base t f) None λ n.
    Some (frame (choose (eqb (kind (view t) n.0) TDR) n.0 (owner (view t) n.0)))
subject base t each = None

-- "those it had at that moment less those reclaimed since": a list for each domain. An accepted keyfree notes what the domain has, and an
-- accepted reclaim strikes its frame out
abbrev pub Lists : Type 0
Lists = ℕ → List Found

abbrev pub noted : Lists → ℕ → List Found → Lists
noted l d now e = choose (eqb e d) now (l e)

unfoldable pub left : Hpa → Tables → Role → Lists → Lists
left base t (on d) l = l
left base t (frees d) l = on_option (place_in base t d) l λ n. noted l n.0 (found_in t n.0)
left base t (reclaims f) l = on_option (place_in base t f) l λ n e. without n.0 (l e)
left base t each l = l

-- ---- "After any calls from a fresh start"

abbrev pub Accepted : Outcome → Type 0
Accepted o = number_of o.answer ≡ 0

-- a refused call leaves the lists as they are
abbrev pub left_by : Hpa → Tables → Call → Outcome → Lists → Lists
left_by base t c o l = choose (eqb (number_of o.answer) 0) (left base t (role_of c) l) l

-- "A fresh start is what an accepted reset leaves; the calls after it lend the same sizes and base, and the tables as the call before left
-- them": any calls, accepted or refused, and any settings of the marks, each with any gauge
pub data Reached (base : Hpa) : Tables → Lists → Type 0 where
  fresh : (t : Tables) (g : Gauge) → Accepted (reset_of base t g) → Reached base (reset_of base t g).tables (λ e. [])
  called : {t : Tables} {l : Lists} → Reached base t l → (g : Gauge) (c : Call)
      → Reached base (call_of base t g c).tables (left_by base t c (call_of base t g c) l)
  marked : {t : Tables} {l : Lists} → Reached base t l → (g : Gauge) (raise clear : Float) → Reached base (marks_of base t g raise clear).tables l

-- ---- the demand, of tables t and the lists l of what domains had when their keys were freed, with any gauge
pub record Demand3 (base : Hpa) (t : Tables) (l : Lists) : Type 0 where
  -- the frames recorded as a domain's own that still holds its key are exactly those found, each once, as many as its child count
  pub keyed : (d : ℕ) → Keyed (view t) d → Owns (view t) d (found_in t d)
  -- once its key is freed, they are those it had at that moment less those reclaimed since
  pub freed : (d : ℕ) → kind (view t) d ≡ TDR → life (view t) (number (view t) d) ≡ TEARDOWN → Owns (view t) d (l d)
  -- an accepted call on one domain leaves every other domain's record, control pages, frames and tree alone ..
  pub alone : (g : Gauge) (c : Call) → (c ≡ Call.CacheWb → ⊥) → Accepted (call_of base t g c) → (e : ℕ) → kind (view t) e ≡ TDR
      → (subject base t (role_of c) ≡ Some (frame e) → ⊥)
      → Untouched (extent t) (view t) (view (call_of base t g c).tables) e
  -- .. "cachewb is the one call that may touch several domains' records; the third demand's last sentence excepts it": it leaves all of every
  -- domain alone but the lifecycle, which moves from blocked to blocked and written back, and from nothing else
  pub together : (g : Gauge) → Accepted (call_of base t g Call.CacheWb) → (e : ℕ) → kind (view t) e ≡ TDR
      → WrittenBack (extent t) (view t) (view (call_of base t g Call.CacheWb).tables) e
  -- no call is answered 14; none is answered 13 whose gauge has its marks in rule; and no setting of the marks is
  pub never14 : (g : Gauge) (c : Call) → number_of (call_of base t g c).answer ≡ 14 → ⊥
  pub never13 : (g : Gauge) (c : Call) → marks_ok g.raise g.clear (length t.frames) ≡ true → number_of (call_of base t g c).answer ≡ 13 → ⊥
  pub never_marks : (g : Gauge) (raise clear : Float) → number_of (marks_of base t g raise clear).answer ≡ 13 → ⊥
  -- a frame recorded NDA is no domain's: not recorded as its own, and not found by its walk
  pub free : (f d : ℕ) → kind (view t) f ≡ NDA → (Belongs (view t) d f → ⊥) × (Keyed (view t) d → (k : ℕ) → times (found f k) (found_in t d) ≡ 0)
