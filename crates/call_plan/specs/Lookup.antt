-- Whom a call is about: the operands' 1, D's 2 and its record's 14, then 3, 4 and 5.
use Rattle.std.specs.Prelude.{Result, Ok, Err}
use Rattle.base_rules.specs.Basics.{ℕ, Bool, List, length, eqb, need, given, and_then, on_option, on_result}
use Rattle.base_units.specs.{Limits.between, Limits.control_pages, Address.frame_of}
use Rattle.base_levels.specs.Level.{top_level, level_ok, gpa_fits}
use Rattle.base_units.specs.declared.address.{Hpa.Hpa, Gpa.Gpa, Pfn.Pfn}
use Rattle.book_stock.specs.Bits.{in_use}
use Rattle.book_ledger.specs.{Codes.NDA, Codes.TDR, Codes.CONFIGURED, Codes.INITIALIZED, Codes.RUNNABLE, Sizes.bit_of, Sizes.root_of}
use Rattle.book_ledger.specs.Tables.{Tables, frame_at, domain_at}
use Rattle.base_calls.specs.{declared.Refusal.Refusal, declared.Refusal.TheVariants.No, declared.Fault.Fault, Operands.D, Operands.GPA, Operands.LEVEL}
use Rattle.call_plan.specs.declared.lookup.Subject.{Subject}

-- an operand's frame, D, and D with F's frame; or the refusal
abbrev pub Operand : Type 0
Operand = Result Pfn Refusal

abbrev pub Lookup : Type 0
Lookup = Result Subject Refusal

abbrev pub Parties : Type 0
Parties = Result (Subject × Pfn) Refusal

abbrev pub on_parties : {A : Type 0} → Parties → (Refusal → A) → (Subject → Pfn → A) → A
on_parties p z k = on_result p z λ q. k q.0 q.1

-- ---- answer 1: operand k is an hpa; frame 0 stands for F where a call has none
unfoldable pub frame_operand : Hpa → ℕ → Hpa → ℕ → Operand
frame_operand base frames hpa k = on_option (frame_of base frames hpa) (Err (No Fault.Operand k)) Ok

abbrev pub no_frame : Operand
no_frame = Ok (record { 0 = 0 })

-- ---- F's 2: "F isn't NDA where it must be"
unfoldable pub is_nda : List ℕ → Pfn → Bool
is_nda fs f = given (frame_at fs f) λ fr. eqb fr.kind NDA

-- ---- "D's 2 [..] one for a TDR's record just after D's 2"
abbrev pub bit_in : Tables → ℕ → ℕ
bit_in t r = bit_of (length t.domains) (length t.entries) r

abbrev pub root_in : Tables → ℕ → ℕ
root_in t r = root_of (length t.domains) (length t.entries) r

unfoldable pub domain_for : Tables → Pfn → Lookup
domain_for t n =
    given (frame_at t.frames n) λ f.
    need (eqb f.kind TDR) (Err (No Fault.Kind D)) (
    given (bit_in t f.number) λ bit.
    need (in_use t.stock bit) (Err (No Fault.Link D)) (
    given (root_in t f.number) λ root.
    given (domain_at t.domains f.number) λ d.
    Ok (record { tdr = n; rec = f.number; bit = bit; root = root; top = top_level; dom = d })))

-- D's 1 comes before those of the other operands, which come before D's 2
unfoldable pub parties_for : Hpa → Tables → Hpa → Operand → Parties
parties_for base t d f =
    and_then (frame_operand base (length t.frames) d D) λ n.
    and_then f λ m.
    and_then (domain_for t n) λ x.
    Ok (x, m)

-- then 3 (keys configured), 4 (four control pages), 5 (the op state from `least` to `most`)
unfoldable pub built_for : Hpa → Tables → Hpa → Operand → ℕ → ℕ → Parties
built_for base t d f least most =
    on_parties (parties_for base t d f) Err λ x m.
    need (eqb x.dom.life CONFIGURED) (Err (No Fault.Life D)) (
    need (eqb x.dom.listed control_pages) (Err (No Fault.Pages D)) (
    need (between least x.dom.op most) (Err (No Fault.OpState D))
    (Ok (x, m))))

-- ---- the calls on a tree: a gpa that fits its level (1), a level from `lowest` on (1), then F's 1
unfoldable pub spot_operand : Gpa → ℕ → ℕ → Operand → Operand
spot_operand gpa level lowest f =
    need (gpa_fits gpa level) (Err (No Fault.Operand GPA)) (
    need (level_ok lowest level) (Err (No Fault.Operand LEVEL))
    f)

unfoldable pub spot_for : Hpa → Tables → Hpa → Gpa → ℕ → ℕ → Operand → ℕ → ℕ → Parties
spot_for base t d gpa level lowest f least most =
    given (spot_operand gpa level lowest f) λ o.
    built_for base t d o least most

-- "Live" means: keys configured, four control pages, op state initialized or runnable.
abbrev pub live_for : Hpa → Tables → Hpa → Gpa → ℕ → ℕ → Operand → Parties
live_for base t d gpa level lowest f = spot_for base t d gpa level lowest f INITIALIZED RUNNABLE
