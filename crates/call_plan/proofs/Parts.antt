-- An edit by its five parts, a frame and a domain by their fields: for proofs, which take them apart and put them together again.
use Rattle.call_plan.specs.Edits.{FrameEdit, PageEdit, DomainEdit, EntryEdit}
use Rattle.call_plan.specs.declared.edit.{StockEdit.StockEdit, Edit.Edit}

abbrev pub edit : FrameEdit → PageEdit → DomainEdit → StockEdit → EntryEdit → Edit
edit f p d s e = record { frame = f; page = p; domain = d; stock = s; entry = e }
