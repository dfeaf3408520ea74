-- A plan carried out, by what it is.
use Rattle.base_rules.specs.Basics.{◌≡◌}
use Rattle.std.specs.Prelude.{Ok, Err}
use Rattle.base_rules.proofs.Facts.{refl}
use Rattle.book_ledger.specs.Tables.{Tables}
use Rattle.base_calls.specs.{Answers.Answer, declared.Reading.Reading, declared.Reading.TheVariants.Done, declared.Refusal.Refusal}
use Rattle.call_plan.specs.Edits.{Plan}
use Rattle.call_plan.specs.declared.edit.{Edit.Edit, Sweep.Sweep, Deed.Deed, Deed.TheVariants.Tell, Deed.TheVariants.Do, Deed.TheVariants.Each}
use Rattle.call_carry.specs.Carry.{applied, swept_tables, carried_out, carried}

module _ (t : Tables) {p : Plan} where
  pub refused : {a : Answer} {r : Refusal} → p ≡ Err r → a ≡ Err r → carried_out a t ≡ carried t p
  unfolding carried
  refused e h = rw (e, h) refl

  pub told : {d : Deed} {r : Reading} → p ≡ Ok d → d ≡ Tell r → carried_out (Ok r) t ≡ carried t p
  unfolding carried
  told e h = rw (e, h) refl

  pub done : {d : Deed} {e : Edit} {u : Tables} → p ≡ Ok d → d ≡ Do e → u ≡ applied e t → carried_out (Ok Done) u ≡ carried t p
  unfolding carried
  done e h k = rw (e, h, k) refl

  pub swept_all : {d : Deed} {w : Sweep} {u : Tables} → p ≡ Ok d → d ≡ Each w → u ≡ swept_tables w t → carried_out (Ok Done) u ≡ carried t p
  unfolding carried
  swept_all e h k = rw (e, h, k) refl
