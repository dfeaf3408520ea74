-- A rule is an ordered list of checks, one a line, then what holds when none refused.
use Rattle.std.specs.Prelude.{Bool, true, false, Option, Some, None, Result, Ok, Err}

-- one of two, by a test
unfoldable pub choose : {A : Type 0} → Bool → A → A → A
choose true a b = a
choose false a b = b

-- the check t, else the refusal z
abbrev pub need : {A : Type 0} → Bool → A → A → A
need t z k = choose t k z

-- where t holds, k has to
abbrev pub implies : Bool → Bool → Bool
implies t k = choose t k true

-- the value v, named: it stays shut, so that a proof can put a callee's answer in its place (`given_by` of proofs/Steps)
unfoldable pub given : {A B : Type 0} → A → (A → B) → B
given v k = k v

-- what an option holds, named, and else z
unfoldable pub on_option : {A B : Type 0} → Option A → B → (A → B) → B
on_option None z k = z
on_option (Some x) z k = k x

-- what went well, named, and else what z makes of the error
unfoldable pub on_result : {A E B : Type 0} → Result A E → (E → B) → (A → B) → B
on_result (Err e) z k = z e
on_result (Ok x) z k = k x

-- .. and else the same error, as `?` passes it on
abbrev pub and_then : {A B E : Type 0} → Result A E → (A → Result B E) → Result B E
and_then r k = on_result r Err k
