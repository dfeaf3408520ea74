-- The paper's number and values for each case of an answer ("When the module says no").
use Rattle.std.specs.Prelude.{ℕ, Result, Ok, Err}
use Rattle.base_units.specs.declared.address.Hpa.{Hpa}
use Rattle.base_calls.specs.declared.{Reading.Reading, Reading.TheVariants.Done, Reading.TheVariants.Page, Reading.TheVariants.Entry}
use Rattle.base_calls.specs.declared.{Refusal.Refusal, Refusal.TheVariants.No, Refusal.TheVariants.Stop, Fault.Fault, Values.Values}

-- accepted, with what is read out, or refused
abbrev pub Answer : Type 0
Answer = Result Reading Refusal

abbrev pub number_of_fault : Fault → ℕ
number_of_fault (Fault.Operand) = 1
number_of_fault (Fault.Kind) = 2
number_of_fault (Fault.Life) = 3
number_of_fault (Fault.Pages) = 4
number_of_fault (Fault.OpState) = 5
number_of_fault (Fault.Walk) = 6
number_of_fault (Fault.State) = 7
number_of_fault (Fault.Untracked) = 8
number_of_fault (Fault.Remains) = 9
number_of_fault (Fault.Key) = 10
number_of_fault (Fault.Stock) = 11
number_of_fault (Fault.Epoch) = 12
number_of_fault (Fault.Range) = 13
number_of_fault (Fault.Link) = 14
number_of_fault (Fault.Unreadable) = 15

abbrev hpa : ℕ → Hpa
hpa n = record { 0 = n }

abbrev values : ℕ → ℕ → Hpa → ℕ → ℕ → Hpa → Values
values n k o l s h = record { number = n; kind = k; owner = o; level = l; state = s; hpa = h }

-- any number, and zeros
abbrev pub plain : ℕ → Values
plain n = values n 0 (hpa 0) 0 0 (hpa 0)

-- "Zeros are read out except at 6, 7 and an accepted read"
unfoldable pub values_of : Answer → Values
values_of (Ok Done) = values 0 0 (hpa 0) 0 0 (hpa 0)
values_of (Ok (Page kind owner)) = values 0 kind owner 0 0 (hpa 0)
values_of (Ok (Entry level state at)) = values 0 0 (hpa 0) level state at
values_of (Err (No fault operand)) = values (number_of_fault fault) 0 (hpa 0) 0 0 (hpa 0)
values_of (Err (Stop fault level state)) = values (number_of_fault fault) 0 (hpa 0) level state (hpa 0)

-- the number alone
abbrev pub number_of : Answer → ℕ
number_of a = (values_of a).number
