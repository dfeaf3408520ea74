-- The calls that give a tree a frame, a row of "The calls" each. Page calls work at level 0.
use Rattle.std.specs.Prelude.{None, Err}
use Rattle.base_rules.specs.Basics.{ℕ, length, need, given, on_option}
use Rattle.base_units.specs.declared.address.{Hpa.Hpa, Gpa.Gpa, Pfn.Pfn}
use Rattle.book_stock.specs.Bits.{lowest_unused}
use Rattle.book_ledger.specs.{Codes.INITIALIZED, Codes.RUNNABLE, Codes.FREE, Codes.NL_MAPPED, Codes.MAPPED, Codes.PENDING, Sizes.tables_of}
use Rattle.book_ledger.specs.{Tables.Tables, declared.words.Frame.Frame}
use Rattle.base_calls.specs.{declared.Refusal.TheVariants.No, declared.Fault.Fault, Operands.F·septadd, Operands.F·page, Operands.NONE}
use Rattle.call_plan.specs.{Edits.Plan, Edits.to_entry, Edits.new_ept, Edits.new_reg, Edits.entry, Lookup.on_parties, Lookup.is_nda, Lookup.spot_for, Lookup.live_for}
use Rattle.call_plan.specs.{Entries.Reach, Entries.entry_for, Entries.on_reach, Changes.refuse, Changes.operand_of, Changes.gain}
use Rattle.call_plan.specs.declared.{lookup.Subject.Subject, edit.StockEdit.StockEdit}

-- F NDA (F's 2, F being operand k), entry FREE (6, 14, 7)
unfoldable pub free_for : Tables → Subject → Gpa → ℕ → Pfn → ℕ → Reach
free_for t x gpa level f k =
    need (is_nda t.frames f) (Err (No Fault.Kind k))
    (entry_for t x gpa level FREE FREE)

-- F joins the tree at entry i of block b, whose state becomes s; the count's 14
abbrev pub hang : ℕ → Subject → Pfn → Frame → StockEdit → ℕ → ℕ → ℕ → Plan
hang frames x f fr st b i s = gain frames x (record {
  frame = f;
  becomes = fr;
  page = None;
  listed = x.dom.listed;
  stock = st;
  entry = to_entry b i (entry s f);
})

unfoldable pub add_table_at : Tables → Subject → Gpa → ℕ → Pfn → Plan
add_table_at t x gpa level f =
    on_reach (free_for t x gpa level f F·septadd) Err λ b i e.
    given (tables_of (length t.domains) (length t.entries)) λ tables.
    on_option (lowest_unused t.stock 0 tables) (refuse Fault.Stock NONE) λ table.
    hang (length t.frames) x f (new_ept x.tdr table) (StockEdit.Table table) b i NL_MAPPED

unfoldable pub add_page_at : Tables → Subject → Gpa → Pfn → ℕ → Plan
add_page_at t x gpa f state =
    on_reach (free_for t x gpa 0 f F·page) Err λ b i e.
    hang (length t.frames) x f (new_reg x.tdr) StockEdit.Keep b i state

-- septadd: live, F NDA, entry FREE; F becomes EPT with a table (11); entry NL_MAPPED
unfoldable pub septadd_plan : Hpa → Tables → Hpa → Gpa → ℕ → Hpa → Plan
septadd_plan base t d gpa level f =
    operand_of base t f F·septadd λ o.
    on_parties (live_for base t d gpa level 1 o) Err λ x m.
    add_table_at t x gpa level m

-- pageadd and pageaug: live with an op state (5), F NDA, entry FREE; F becomes REG; the entry's new state
unfoldable pub page_plan : Hpa → Tables → Hpa → Gpa → Hpa → ℕ → ℕ → Plan
page_plan base t d gpa f op state =
    operand_of base t f F·page λ o.
    on_parties (spot_for base t d gpa 0 0 o op op) Err λ x m.
    add_page_at t x gpa m state

-- pageadd: initialized; MAPPED. pageaug: runnable; PENDING
abbrev pub pageadd_plan : Hpa → Tables → Hpa → Gpa → Hpa → Plan
pageadd_plan base t d gpa f = page_plan base t d gpa f INITIALIZED MAPPED

abbrev pub pageaug_plan : Hpa → Tables → Hpa → Gpa → Hpa → Plan
pageaug_plan base t d gpa f = page_plan base t d gpa f RUNNABLE PENDING
