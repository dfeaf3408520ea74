-- How a call ends: refused, or with its domain's record changed and a frame gained or lost.
use Rattle.std.specs.Prelude.{ℕ, ◌+◌, ◌-◌, length, eqb, ltb, Some, None, Ok, Err}
use Rattle.base_rules.specs.Basics.{choose, need, given, and_then}
use Rattle.base_units.specs.declared.address.{Hpa.Hpa, Gpa.Gpa, Pfn.Pfn}
use Rattle.book_ledger.specs.{Tables.Tables, declared.words.Frame.Frame, declared.words.Domain.Domain}
use Rattle.base_calls.specs.{declared.Refusal.TheVariants.No, declared.Fault.Fault, Operands.NONE}
use Rattle.call_plan.specs.Edits.{FrameEdit, PageEdit, DomainEdit, EntryEdit, Plan, freed, with_counts}
use Rattle.call_plan.specs.Lookup.{Operand, on_parties, frame_operand, no_frame, parties_for, built_for, live_for}
use Rattle.call_plan.specs.declared.{change.Gain.Gain, lookup.Subject.Subject, edit.StockEdit.StockEdit, edit.Deed.TheVariants.Do}

-- a refusal with its number and the operand at fault
abbrev pub refuse : Fault → ℕ → Plan
refuse w k = Err (No w k)

-- a call that only changes its domain's scalars
abbrev pub become : Subject → Domain → Plan
become x d = Ok (Do (record { frame = None; page = None; domain = Some (x.rec, d); stock = StockEdit.Keep; entry = None }))

-- "Each frame gained or lost by an owner moves its child count by one": the count's 14, then the frame is gained
unfoldable pub gain : ℕ → Subject → Gain → Plan
gain frames x g =
    need (ltb x.dom.children frames) (refuse Fault.Link NONE) (
    given (with_counts x.dom g.listed (x.dom.children + 1)) λ d.
    Ok (Do (record { frame = Some (g.frame, g.becomes); page = g.page; domain = Some (x.rec, d); stock = g.stock; entry = g.entry })))

-- frame n becomes NDA
unfoldable pub lose : Subject → Pfn → StockEdit → EntryEdit → Plan
lose x n s e =
    choose (eqb x.dom.children 0) (refuse Fault.Link NONE) (
    given (with_counts x.dom x.dom.listed (x.dom.children - 1)) λ d.
    Ok (Do (record { frame = Some (n, freed); page = None; domain = Some (x.rec, d); stock = s; entry = e })))

-- an hpa, which is operand k of the call
abbrev pub on_frame : Hpa → Tables → Hpa → ℕ → (Pfn → Plan) → Plan
on_frame base t hpa k next = and_then (frame_operand base (length t.frames) hpa k) next

-- F, which is operand k
abbrev pub operand_of : Hpa → Tables → Hpa → ℕ → (Operand → Plan) → Plan
operand_of base t f k next = given (frame_operand base (length t.frames) f k) next

-- D, of a call that has no F
abbrev pub on_domain : Hpa → Tables → Hpa → (Subject → Plan) → Plan
on_domain base t d next = on_parties (parties_for base t d no_frame) Err λ x m. next x

abbrev pub on_built : Hpa → Tables → Hpa → ℕ → ℕ → (Subject → Plan) → Plan
on_built base t d least most next = on_parties (built_for base t d no_frame least most) Err λ x m. next x

abbrev pub on_live : Hpa → Tables → Hpa → Gpa → ℕ → ℕ → (Subject → Plan) → Plan
on_live base t d gpa level lowest next = on_parties (live_for base t d gpa level lowest no_frame) Err λ x m. next x
