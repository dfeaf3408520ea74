-- Document 01, "When the module says no" and its paragraph "Order": each reason to refuse, the fault that it is, its number, and its place in the order.
use Rattle.std.specs.Prelude.{ℕ, Bool, true, false, List, [], ◌∷◌, ◌≡◌, leb}
use Rattle.base_rules.specs.Basics.{choose}
use Rattle.base_calls.specs.declared.Fault.{Fault}

pub data Reason : Type 0 where
  -- 13: lent sizes, base or a stored number; a lent gauge's marks
  tables : Reason
  marks : Reason
  -- 1
  operand : Reason
  -- D's 2, and reclaim's of an NDA frame; the 14 of a TDR's record or of an owner
  domain : Reason
  record' : Reason
  -- 3, 4, 5
  lifecycle : Reason
  pages : Reason
  op_state : Reason
  -- F's 2
  offered : Reason
  -- 10
  key : Reason
  -- 6, and the 14 where the walk meets it
  stopped : Reason
  foreign : Reason
  -- 7, 8
  entry : Reason
  untracked : Reason
  -- "septremove's for its frame just before 9"
  emptied : Reason
  -- 9, 11, 12
  remain : Reason
  stock : Reason
  epoch : Reason
  -- the 14 of a page removed and of a frame blocked or unblocked; of a child count, and of a reclaimed EPT's table
  frame : Reason
  count : Reason
  -- 15: a request's number that names no call
  unreadable : Reason

-- what the code says is wrong ..
abbrev pub fault_of : Reason → Fault
fault_of tables = Fault.Range
fault_of marks = Fault.Range
fault_of operand = Fault.Operand
fault_of domain = Fault.Kind
fault_of record' = Fault.Link
fault_of lifecycle = Fault.Life
fault_of pages = Fault.Pages
fault_of op_state = Fault.OpState
fault_of offered = Fault.Kind
fault_of key = Fault.Key
fault_of stopped = Fault.Walk
fault_of foreign = Fault.Link
fault_of entry = Fault.State
fault_of untracked = Fault.Untracked
fault_of emptied = Fault.Link
fault_of remain = Fault.Remains
fault_of stock = Fault.Stock
fault_of epoch = Fault.Epoch
fault_of frame = Fault.Link
fault_of count = Fault.Link
fault_of unreadable = Fault.Unreadable

-- .. and the paper's number, read from the paper once more
abbrev pub number : Reason → ℕ
number tables = 13
number marks = 13
number operand = 1
number domain = 2
number record' = 14
number lifecycle = 3
number pages = 4
number op_state = 5
number offered = 2
number key = 10
number stopped = 6
number foreign = 14
number entry = 7
number untracked = 8
number emptied = 14
number remain = 9
number stock = 11
number epoch = 12
number frame = 14
number count = 14
number unreadable = 15

-- "Order: 13, 1, D's 2, 3, 4, 5, F's 2, then 10, 6, 7, 8, 9, 11, 12, 14; a 14 in a walk comes where the walk meets it, one for a TDR's record just
-- after D's 2, septremove's for its frame just before 9. For reclaim: 13, 1, 2, an owner's or a TDR F's 14, 3, 9, an EPT's table's or the
-- count's 14."
--
-- Reasons that no row has both of share a place, so that no two neighbouring places could be swapped unseen: 10 (create) and 6 (a walk); 9, 11
-- and 12 (septremove, reclaim; create, septadd; track).
abbrev pub place : Reason → ℕ
place unreadable = 0
place tables = 1
place marks = 1
place operand = 2
place domain = 3
place record' = 4
place lifecycle = 5
place pages = 6
place op_state = 7
place offered = 8
place key = 9
place stopped = 9
place foreign = 9
place entry = 10
place untracked = 11
place emptied = 12
place remain = 13
place stock = 13
place epoch = 13
place frame = 14
place count = 14

-- a check: the reason to refuse, and whether all is well
pub record Check : Type 0 where
  pub why : Reason
  pub well : Bool

abbrev pub check : Reason → Bool → Check
check w b = record { why = w; well = b }

-- the number of the first check that fails, and 0 where none does
unfoldable pub first_no : List Check → ℕ
first_no [] = 0
first_no (c ∷ cs) = choose c.well (first_no cs) (number c.why)

-- n is the number of a check that fails, and no check before it does
pub data Fails (n : ℕ) : List Check → Type 0 where
  here : {w : Reason} {cs : List Check} → number w ≡ n → Fails n (check w false ∷ cs)
  later : {w : Reason} {cs : List Check} → Fails n cs → Fails n (check w true ∷ cs)

-- no check fails
pub data Passes : List Check → Type 0 where
  none : Passes []
  one : {w : Reason} {cs : List Check} → Passes cs → Passes (check w true ∷ cs)

-- the checks stand in the paper's order
unfoldable pub in_order : ℕ → List Check → Bool
in_order p [] = true
in_order p (c ∷ cs) = choose (leb p (place c.why)) (in_order (place c.why) cs) false
