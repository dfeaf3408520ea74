-- The harmed tables are answered as the paper says.
use Rattle.base_rules.specs.Basics.{Bool, true, false, List, [], ◌∷◌, ◌≡◌, eqb, need}
use Rattle.base_rules.proofs.Facts.{refl, eqb-true, both_left, both_right}
use Rattle.base_calls.specs.Answers.{number_of}
use Rattle.call_carry.specs.Carry.{carried}
use Rattle.call_host.specs.Calls.{plan_of, settled, rule_of}
use Rattle.fact_cases.specs.Cases.{base, run}
use Rattle.fact_cases.proofs.Open.{call_open}
use Rattle.fact_paper.specs.Harmed.{OnTables, AllSay, each_says, harmed}

unfoldable pub say : List OnTables → Bool
say [] = true
say (h ∷ hs) = need (eqb (number_of (carried h.tables (plan_of base h.tables h.then)).answer) h.says) false (say hs)

pub all_say : (hs : List OnTables) → say hs ≡ true → AllSay hs
unfolding say AllSay rule_of settled
all_say [] e = tt
all_say (h ∷ hs) e =
    let t = eqb (number_of (carried h.tables (plan_of base h.tables h.then)).answer) h.says in
    (λ g. eqb-true _ _ (both_left t (say hs) e), all_say hs (both_right t (say hs) e))

pub harmed_right : AllSay harmed
unfolding harmed each_says say run call_open
harmed_right = all_say harmed refl
