-- reclaim and readpage: the calls on a frame alone.
use Rattle.std.specs.Prelude.{Some, None, Ok}
use Rattle.base_rules.specs.Basics.{ℕ, List, eqb, ltb, choose, need, given, on_result}
use Rattle.base_units.specs.{Address.hpa_of, declared.address.Hpa.Hpa, declared.address.Pfn.Pfn}
use Rattle.book_stock.specs.Bits.{in_use}
use Rattle.book_ledger.specs.{Codes.NDA, Codes.TDR, Codes.TDCX, Codes.EPT, Codes.TEARDOWN, Tables.Tables, Tables.frame_at, declared.words.Frame.Frame}
use Rattle.base_calls.specs.{declared.Reading.TheVariants.Page, declared.Fault.Fault, Operands.F·alone, Operands.NONE}
use Rattle.call_plan.specs.{Edits.Plan, Edits.freed, Lookup.domain_for, Changes.refuse, Changes.on_frame, Changes.lose}
use Rattle.call_plan.specs.declared.{lookup.Subject.Subject, edit.StockEdit.StockEdit, edit.Deed.TheVariants.Tell, edit.Deed.TheVariants.Do}

-- "For reclaim: 13, 1, 2, an owner's or a TDR F's 14, 3, 9, an EPT's table's or the count's 14."
-- a TDR: in teardown (3), child count 0 (9); its record given back
unfoldable pub reclaim_tdr : Subject → Plan
reclaim_tdr x =
    need (eqb x.dom.life TEARDOWN) (refuse Fault.Life F·alone) (
    need (eqb x.dom.children 0) (refuse Fault.Remains F·alone)
    (Ok (Do (record {
      frame = Some (x.tdr, freed);
      page = None;
      domain = None;
      stock = StockEdit.Give x.bit;
      entry = None;
    }))))

-- a frame f at n of the owner x: the owner in teardown (3), an EPT's table's 14, the count's 14; a table given back
unfoldable pub reclaim_child : List ℕ → Subject → Pfn → Frame → Plan
reclaim_child st x n f =
    need (eqb x.dom.life TEARDOWN) (refuse Fault.Life F·alone) (
    choose (eqb f.kind EPT)
    (need (in_use st f.number) (refuse Fault.Link NONE) (lose x n (StockEdit.Give f.number) None))
    (lose x n StockEdit.Keep None))

-- reclaim: owner (or F itself, a TDR) in teardown; a TDR has child count 0; F NDA; its table or record given back
unfoldable pub reclaim_at : Tables → Pfn → Plan
reclaim_at t n =
    given (frame_at t.frames n) λ f.
    choose (eqb f.kind NDA) (refuse Fault.Kind F·alone) (
    choose (eqb f.kind TDR)
    (on_result (domain_for t n) (λ a. refuse Fault.Link NONE) reclaim_tdr)
    (on_result (domain_for t f.owner) (λ a. refuse Fault.Link NONE) λ x. reclaim_child t.stock x n f))

unfoldable pub reclaim_plan : Hpa → Tables → Hpa → Plan
reclaim_plan base t h =
    on_frame base t h F·alone λ n.
    reclaim_at t n

-- readpage: type, owner hpa (0 if none: types 0 and 1 have no owner)
unfoldable pub readpage_plan : Hpa → Tables → Hpa → Plan
readpage_plan base t h =
    on_frame base t h F·alone λ n.
    given (frame_at t.frames n) λ f.
    choose (ltb f.kind TDCX) (Ok (Tell (Page f.kind (record { 0 = 0 })))) (
    given (hpa_of base f.owner) λ owner.
    Ok (Tell (Page f.kind owner)))
