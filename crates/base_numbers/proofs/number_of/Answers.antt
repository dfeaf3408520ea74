use Rattle.std.proofs.Common.{◌≡◌, Some, None, refl}
use Rattle.std.specs.Bool.{then_some}
use Rattle.std.proofs.lemmas.Grind.{common_steps}
use Rattle.std.proofs.lemmas.Bool.Decides.{nat_tests}
use Rattle.base_rules.specs.Basics.{Bool, true, false, eqb, length, choose, need}
use Rattle.base_rules.proofs.Facts.{arith, if_ne, if_eq}
use Rattle.base_numbers.specs.Number.{number_read}
use Rattle.base_numbers.proofs.number_of.Goals as goal

then_some_is : {A : Type 0} (t : Bool) (x : A) → then_some t x ≡ need t None (Some x)
unfolding choose
then_some_is true x = refl
then_some_is false x = refl

pub returns-in-empty : goal.returns-in-empty
unfolding number_read
returns-in-empty c = if_eq _ (omega arith) (search)

pub returns-in-48 : goal.returns-in-48
unfolding number_read
returns-in-48 c =
    let alone : c.is_empty.result ≡ eqb (length c.args.field.now) 1 = grind (arith, common_steps, nat_tests) in
    if_ne _ (omega arith) (if_eq _ (search) (rw (c.then_some.ensures, alone) (then_some_is _ _)))

pub returns-in_default : goal.returns-in_default
unfolding number_read
returns-in_default c = if_ne _ (omega arith) (if_ne _ (omega arith) (c.spelt.ensures))
