-- What every outcome has in common: it is the only one, a refusal changes nothing, and zeros are read out but where the paper says otherwise.
use Rattle.std.specs.Prelude.{Ok, Err}
use Rattle.base_rules.specs.Basics.{◌≡◌, Bool, false}
use Rattle.base_rules.proofs.Facts.{refl, sym, ◌∙◌, true≢false, inl, inr}
use lib.Ieee.{Float}
use Rattle.base_units.specs.declared.address.Hpa.{Hpa}
use Rattle.book_gauge.specs.declared.Gauge.{Gauge}
use Rattle.book_ledger.specs.Tables.{Tables}
use Rattle.base_calls.specs.{Answers.values_of, Answers.number_of, declared.Call.Call, declared.Ask.Ask}
use Rattle.door_asks.specs.Asks.{ask_of}
use Rattle.fact_theorems.specs.{Doors.reads_out, Checks.reads}
use Rattle.call_host.specs.Calls.{call_of, reset_of, marks_of}
use Rattle.fact_theorems.proofs.{Firsts.Tells, Answers.Kept, Answers.settles}
use Rattle.base_calls.specs.{Answers.Answer, declared.Reading.Reading, declared.Refusal.TheVariants.No, declared.Refusal.TheVariants.Stop}

pub call_kept : (base : Hpa) (t : Tables) (g : Gauge) (c : Call) → Kept t g (call_of base t g c)
unfolding ask_of
call_kept base t g c = (settles base t g (Ask.Host c)).same

pub reset_kept : (base : Hpa) (t : Tables) (g : Gauge) → Kept t g (reset_of base t g)
unfolding ask_of
reset_kept base t g = (settles base t g (Ask.Reset)).same

pub marks_kept : (base : Hpa) (t : Tables) (g : Gauge) (raise clear : Float) → Kept t g (marks_of base t g raise clear)
unfolding ask_of
marks_kept base t g raise clear = (settles base t g (Ask.Marks raise clear)).same

-- "Zeros are read out except at 6, 7 and an accepted read."
unfoldable pub Zeros : Answer → Type 0
Zeros a = values_of a ≡ record { number = number_of a; kind = 0; owner = record { 0 = 0 }; level = 0; state = 0; hpa = record { 0 = 0 } }

pub by_tells : (r : Bool) (a : Answer) → Tells r a → (number_of a ≡ 6 → ⊥) → (number_of a ≡ 7 → ⊥) → (number_of a ≡ 0 → r ≡ false) → Zeros a
unfolding Tells Zeros values_of
by_tells r (Ok Reading.Done) h p q z = refl
by_tells r (Ok (Reading.Page k o)) h p q z = absurd (true≢false (sym h ∙ z refl))
by_tells r (Ok (Reading.Entry l s o)) h p q z = absurd (true≢false (sym h ∙ z refl))
by_tells r (Err (No w k)) h p q z = refl
by_tells r (Err (Stop w l s)) (inl h) p q z = absurd (p h)
by_tells r (Err (Stop w l s)) (inr h) p q z = absurd (q h)

pub zeros : (base : Hpa) (t : Tables) (g : Gauge) (c : Call)
    → (number_of (call_of base t g c).answer ≡ 6 → ⊥)
    → (number_of (call_of base t g c).answer ≡ 7 → ⊥)
    → (number_of (call_of base t g c).answer ≡ 0 → reads c ≡ false)
    → Zeros (call_of base t g c).answer
unfolding ask_of reads_out
zeros base t g c = by_tells (reads c) _ (settles base t g (Ask.Host c)).tells
