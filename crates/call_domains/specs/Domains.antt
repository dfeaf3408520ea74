-- The calls on a domain's record, a row of "The calls" each.
use Rattle.std.specs.Prelude.{ℕ, ◌+◌, ◌-◌, Bool, List, length, eqb, ltb, Some, None, Ok, Err}
use Rattle.base_rules.specs.Basics.{implies, need, given, all_from, on_option}
use Rattle.base_units.specs.Limits.{between, control_pages, epoch_least, epoch_most, key_ok}
use Rattle.base_units.specs.declared.address.{Hpa.Hpa, Pfn.Pfn}
use Rattle.book_stock.specs.Bits.{in_use, lowest_unused}
use Rattle.book_ledger.specs.Codes.{ASSIGNED, CONFIGURED, BLOCKED_LIFE, TEARDOWN, WRITTEN_BACK, UNINITIALIZED, INITIALIZED, RUNNABLE}
use Rattle.book_ledger.specs.{Sizes.tables_of, Sizes.bits_of, Tables.Tables, Tables.domain_at, declared.words.Domain.Domain}
use Rattle.call_plan.specs.Edits.{Plan, new_tdr, new_tdcx, with_life, with_op, with_epoch}
use Rattle.call_plan.specs.Lookup.{on_parties, is_nda, root_in, parties_for}
use Rattle.call_plan.specs.Changes.{refuse, become, gain, on_frame, operand_of, on_domain, on_built}
use Rattle.call_plan.specs.declared.{lookup.Subject.Subject, edit.StockEdit.StockEdit, edit.Sweep.Sweep, edit.Deed.TheVariants.Do, edit.Deed.TheVariants.Each}
use Rattle.base_calls.specs.declared.Fault.{Fault}
use Rattle.base_calls.specs.Operands.{D, F·alone, F·addcx, KEY, NONE}

-- the lifecycle from `least` to `most` (3); its new one
unfoldable pub life_plan : Hpa → Tables → Hpa → ℕ → ℕ → ℕ → Plan
life_plan base t d least most life =
    on_domain base t d λ x.
    need (between least x.dom.life most) (refuse Fault.Life D)
    (given (with_life x.dom life) (become x))

-- keyconfig: HKID assigned; keys configured
abbrev pub keyconfig_plan : Hpa → Tables → Hpa → Plan
keyconfig_plan base t d = life_plan base t d ASSIGNED ASSIGNED CONFIGURED

-- flushdone: HKID assigned or keys configured; blocked
abbrev pub flushdone_plan : Hpa → Tables → Hpa → Plan
flushdone_plan base t d = life_plan base t d ASSIGNED CONFIGURED BLOCKED_LIFE

-- cachewb: "every domain in blocked becomes blocked and written back" (request 5). It has no operands, and refuses nothing
abbrev pub write_back : Sweep
write_back = record { from = BLOCKED_LIFE; to = WRITTEN_BACK }

abbrev pub cachewb_plan : Plan
cachewb_plan = Ok (Each write_back)

-- keyfree: blocked and written back ("keyfree then needs that, and answers 3 without it"); teardown; key free
abbrev pub keyfree_plan : Hpa → Tables → Hpa → Plan
keyfree_plan base t d = life_plan base t d WRITTEN_BACK WRITTEN_BACK TEARDOWN

-- keys configured (3), 4 control pages (4), the op state `from` (5); its new one
unfoldable pub op_plan : Hpa → Tables → Hpa → ℕ → ℕ → Plan
op_plan base t d from op =
    on_built base t d from from λ x.
    given (with_op x.dom op) (become x)

-- init: uninitialized; initialized
abbrev pub init_plan : Hpa → Tables → Hpa → Plan
init_plan base t d = op_plan base t d UNINITIALIZED INITIALIZED

-- finalize: live, initialized; runnable
abbrev pub finalize_plan : Hpa → Tables → Hpa → Plan
finalize_plan base t d = op_plan base t d INITIALIZED RUNNABLE

-- track: live, epoch below its limit (12); epoch + 1
unfoldable pub track_plan : Hpa → Tables → Hpa → Plan
track_plan base t d =
    on_built base t d INITIALIZED RUNNABLE λ x.
    need (ltb x.dom.epoch epoch_most) (refuse Fault.Epoch D)
    (given (with_epoch x.dom (x.dom.epoch + 1)) (become x))

-- addcx: keys configured (3), fewer than 4 control pages (4), F NDA (2), the count's 14; F becomes TDCX and is listed
unfoldable pub enlist_at : List ℕ → Subject → Pfn → Plan
enlist_at fs x f =
    need (eqb x.dom.life CONFIGURED) (refuse Fault.Life D) (
    need (ltb x.dom.listed control_pages) (refuse Fault.Pages D) (
    need (is_nda fs f) (refuse Fault.Kind F·addcx)
    (gain (length fs) x (record {
      frame = f;
      becomes = new_tdcx x.tdr;
      page = Some (x.rec, x.dom.listed, f);
      listed = x.dom.listed + 1;
      stock = StockEdit.Keep;
      entry = None;
    }))))

unfoldable pub addcx_plan : Hpa → Tables → Hpa → Hpa → Plan
addcx_plan base t d f =
    operand_of base t f F·addcx λ o.
    on_parties (parties_for base t d o) Err λ x m.
    enlist_at t.frames x m

-- "no domain before teardown has the key": any record in use and not in teardown. Record r has the in-use bit `first + r`
unfoldable pub other_key : List ℕ → List ℕ → ℕ → ℕ → ℕ → Bool
other_key ds st first key bit =
    implies (in_use st bit) (
    given (bit - first) λ r.
    given (domain_at ds r) λ d.
    implies (eqb d.key key)
    (eqb d.life TEARDOWN))

unfoldable pub key_unused : List ℕ → List ℕ → ℕ → ℕ → ℕ → Bool
key_unused ds st first end key = all_from (other_key ds st first key) first (end - first)

-- "F becomes TDR; a new record, HKID assigned, uninitialized, epoch 1"
abbrev pub fresh_domain : ℕ → Domain
fresh_domain key = record { key = key; life = ASSIGNED; op = UNINITIALIZED; listed = 0; children = 0; epoch = epoch_least; width = 0 }

unfoldable pub new_record : Pfn → ℕ → ℕ → ℕ → ℕ → Plan
new_record f key bit root r = Ok (Do (record {
  frame = Some (f, new_tdr r);
  page = None;
  domain = Some (r, fresh_domain key);
  stock = StockEdit.Record bit root r;
  entry = None;
}))

-- create: F is NDA (2); the key's 10; a record's 11; F becomes TDR; a new record
unfoldable pub create_at : Tables → Pfn → ℕ → Plan
create_at t f key =
    need (is_nda t.frames f) (refuse Fault.Kind F·alone) (
    given (tables_of (length t.domains) (length t.entries)) λ first.
    given (bits_of (length t.domains) (length t.entries)) λ end.
    need (key_unused t.domains t.stock first end key) (refuse Fault.Key KEY) (
    on_option (lowest_unused t.stock first end) (refuse Fault.Stock NONE) λ bit.
    given (bit - first) λ r.
    given (root_in t r) λ root.
    new_record f key bit root r))

unfoldable pub create_plan : Hpa → Tables → Hpa → ℕ → Plan
create_plan base t f key =
    on_frame base t f F·alone λ n.
    need (key_ok key) (refuse Fault.Operand KEY)
    (create_at t n key)
