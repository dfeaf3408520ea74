-- The calls on what a domain's tree has, a row of "The calls" each. Page calls work at level 0.
use Rattle.std.specs.Prelude.{Some, None, Ok, Err}
use Rattle.base_rules.specs.Basics.{ℕ, eqb, choose, need, given}
use Rattle.base_units.specs.{Address.hpa_of, declared.address.Hpa.Hpa, declared.address.Gpa.Gpa}
use Rattle.book_ledger.specs.Codes.{FREE, NL_MAPPED, PENDING, NL_BLOCKED, BLOCKED, PENDING_BLOCKED}
use Rattle.book_ledger.specs.Tables.{Tables, frame_at, entry_at}
use Rattle.book_walk.specs.Walk.{own_frame, on_walk}
use Rattle.base_calls.specs.{declared.Refusal.TheVariants.No, declared.Refusal.TheVariants.Stop, declared.Reading.TheVariants.Entry, declared.Fault.Fault, Operands.NONE}
use Rattle.call_plan.specs.{Edits.Plan, Edits.to_entry, Edits.with_frame_epoch, Edits.entry, Edits.free_entry, Changes.refuse, Changes.on_live, Changes.lose}
use Rattle.call_plan.specs.Entries.{Reach, walk_of, entry_for, on_reach, blocked_state, unblocked_state, is_tracked, table_empty}
use Rattle.book_ledger.specs.Tables.{slot}
use Rattle.call_plan.specs.declared.{lookup.Subject.Subject, edit.StockEdit.StockEdit, edit.Deed.TheVariants.Tell, edit.Deed.TheVariants.Do}

-- ---- block: entry 1, 2 or 3, its frame's 14; entry 4, 5 or 6, and its frame's epoch := the domain's
unfoldable pub block_at : Tables → Subject → Gpa → ℕ → Plan
block_at t x gpa level =
    on_reach (entry_for t x gpa level NL_MAPPED PENDING) Err λ b i e.
    need (own_frame t.frames t.stock x.tdr e) (refuse Fault.Link NONE) (
    given (frame_at t.frames e.frame) λ f.
    given (with_frame_epoch f x.dom.epoch) λ since.
    given (blocked_state e.state) λ state.
    Ok (Do (record {
      frame = Some (e.frame, since);
      page = None;
      domain = None;
      stock = StockEdit.Keep;
      entry = to_entry b i (entry state e.frame);
    })))

unfoldable pub block_plan : Hpa → Tables → Hpa → Gpa → ℕ → Plan
block_plan base t d gpa level =
    on_live base t d gpa level 0 λ x.
    block_at t x gpa level

-- ---- an entry that was blocked: its state from `least` to `most`; tracked (8); its frame's 14
unfoldable pub tracked_for : Tables → Subject → Gpa → ℕ → ℕ → ℕ → Reach
tracked_for t x gpa level least most =
    on_reach (entry_for t x gpa level least most) Err λ b i e.
    need (is_tracked t.frames e.frame x) (Err (No Fault.Untracked NONE)) (
    need (own_frame t.frames t.stock x.tdr e) (Err (No Fault.Link NONE))
    (Ok (slot b i, e)))

-- unblock: entry 4, 5 or 6; entry 1, 2 or 3
unfoldable pub unblock_at : Tables → Subject → Gpa → ℕ → Plan
unblock_at t x gpa level =
    on_reach (tracked_for t x gpa level NL_BLOCKED PENDING_BLOCKED) Err λ b i e.
    given (unblocked_state e.state) λ state.
    Ok (Do (record {
      frame = None;
      page = None;
      domain = None;
      stock = StockEdit.Keep;
      entry = to_entry b i (entry state e.frame);
    }))

unfoldable pub unblock_plan : Hpa → Tables → Hpa → Gpa → ℕ → Plan
unblock_plan base t d gpa level =
    on_live base t d gpa level 0 λ x.
    unblock_at t x gpa level

-- ---- removals: a table's 9, the count's 14; frame NDA, entry FREE
unfoldable pub pageremove_at : Tables → Subject → Gpa → Plan
pageremove_at t x gpa =
    on_reach (tracked_for t x gpa 0 BLOCKED PENDING_BLOCKED) Err λ b i e.
    lose x e.frame StockEdit.Keep (to_entry b i free_entry)

-- pageremove: live; entry 5 or 6; tracked; frame NDA, entry FREE
unfoldable pub pageremove_plan : Hpa → Tables → Hpa → Gpa → Plan
pageremove_plan base t d gpa =
    on_live base t d gpa 0 0 λ x.
    pageremove_at t x gpa

unfoldable pub septremove_at : Tables → Subject → Gpa → ℕ → Plan
septremove_at t x gpa level =
    on_reach (tracked_for t x gpa level NL_BLOCKED NL_BLOCKED) Err λ b i e.
    given (frame_at t.frames e.frame) λ f.
    need (table_empty t.entries f.number) (refuse Fault.Remains NONE)
    (lose x e.frame (StockEdit.Give f.number) (to_entry b i free_entry))

-- septremove: live; entry 4; tracked; its 512 entries FREE; frame NDA, table given back, entry FREE
unfoldable pub septremove_plan : Hpa → Tables → Hpa → Gpa → ℕ → Plan
septremove_plan base t d gpa level =
    on_live base t d gpa level 1 λ x.
    septremove_at t x gpa level

-- ---- readentry: live; level, state, hpa (0 if FREE). The walk's 6 and 14, and no more
unfoldable pub readentry_at : Hpa → Tables → Subject → Gpa → ℕ → Plan
readentry_at base t x gpa level =
    on_walk (walk_of t x gpa level) (λ l s. Err (Stop Fault.Walk l s)) (refuse Fault.Link NONE) λ b i.
    given (entry_at t.entries b i) λ e.
    choose (eqb e.state FREE) (Ok (Tell (Entry level e.state (record { 0 = 0 })))) (
    given (hpa_of base e.frame) λ hpa.
    Ok (Tell (Entry level e.state hpa)))

unfoldable pub readentry_plan : Hpa → Tables → Hpa → Gpa → ℕ → Plan
readentry_plan base t d gpa level =
    on_live base t d gpa level 0 λ x.
    readentry_at base t x gpa level
