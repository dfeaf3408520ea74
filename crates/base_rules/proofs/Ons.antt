-- One step down a rule by the case of a callee's answer r, which its contract gives as p, from the case that a match, a `let .. else` or a `?` left.
use Rattle.std.proofs.Common.{◌≡◌, Option, Some, None, Result, Ok, Err, IsErr, IsErrAnd, refl, sym, ◌∙◌}
use Rattle.std.proofs.lemmas.Result.{err_from_is_err_and}
use Rattle.std.specs.Option.{ok_or}
use Rattle.base_rules.specs.Rule.{on_option, on_result}
use Rattle.base_rules.proofs.Steps.{steps}

or_else : {A E : Type 0} (o : Option A) (e : E) → ok_or o e ≡ on_option o (Err e) Ok
unfolding on_option
or_else (Some x) e = refl
or_else None e = refl

module _ {A B : Type 0} {v : B} {r p : Option A} where
  pub option_some : {x : A} (z : B) (k : A → B) → r ≡ p → r ≡ Some x → v ≡ k x → v ≡ on_option p z k
  unfolding on_option
  option_some z k e h g = rw (← e, h) g

  pub option_none : {z : B} (k : A → B) → r ≡ p → r ≡ None → v ≡ z → v ≡ on_option p z k
  unfolding on_option
  option_none k e h g = rw (← e, h) g

-- what `ok_or` makes of it
pub option_or : {A E : Type 0} {v : Result A E} {r p : Option A} (e : E) → r ≡ p → v ≡ ok_or r e → v ≡ on_option p (Err e) Ok
unfolding on_option
option_or {r = r} e q h = rw (← q) (h ∙ or_else r e)

module _ {A E B : Type 0} {v : B} {r p : Result A E} where
  pub result_ok : {x : A} (z : E → B) (k : A → B) → r ≡ p → r ≡ Ok x → v ≡ k x → v ≡ on_result p z k
  unfolding on_result
  result_ok z k e h g = rw (← e, h) g

  pub result_err : {x : E} (z : E → B) (k : A → B) → r ≡ p → r ≡ Err x → v ≡ z x → v ≡ on_result p z k
  unfolding on_result
  result_err z k e h g = rw (← e, h) g

-- what a `?` passes on
pub passed_on : {B E : Type 0} {v : Result B E} {x : E} → IsErr v × IsErrAnd v (λ e. e ≡ x) → v ≡ Err x
passed_on {v = v} w = let p = err_from_is_err_and v w.1 in rw (← p.2) p.1

pub ruleset ons = (option_some, option_none, option_or, result_ok, result_err, passed_on, steps)
