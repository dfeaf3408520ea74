use Rattle.door_requests.specs.Requests.{ask_at}
use Rattle.door_requests.proofs.Numbers.{number_is, number_other}
use Rattle.door_requests.proofs.ask_of.Goals as goal

pub returns-in-0 : goal.returns-in-0
unfolding ask_at
returns-in-0 c = search number_is

pub returns-in-1 : goal.returns-in-1
unfolding ask_at
returns-in-1 c = search number_is

pub returns-in-2 : goal.returns-in-2
unfolding ask_at
returns-in-2 c = search number_is

pub returns-in-3 : goal.returns-in-3
unfolding ask_at
returns-in-3 c = search number_is

pub returns-in-4 : goal.returns-in-4
unfolding ask_at
returns-in-4 c = search number_is

pub returns-in-5 : goal.returns-in-5
unfolding ask_at
returns-in-5 c = search number_is

pub returns-in-6 : goal.returns-in-6
unfolding ask_at
returns-in-6 c = search number_is

pub returns-in-7 : goal.returns-in-7
unfolding ask_at
returns-in-7 c = search number_is

pub returns-in-8 : goal.returns-in-8
unfolding ask_at
returns-in-8 c = search number_is

pub returns-in-9 : goal.returns-in-9
unfolding ask_at
returns-in-9 c = search number_is

pub returns-in-10 : goal.returns-in-10
unfolding ask_at
returns-in-10 c = search number_is

pub returns-in-11 : goal.returns-in-11
unfolding ask_at
returns-in-11 c = search number_is

pub returns-in-12 : goal.returns-in-12
unfolding ask_at
returns-in-12 c = search number_is

pub returns-in-13 : goal.returns-in-13
unfolding ask_at
returns-in-13 c = search number_is

pub returns-in-14 : goal.returns-in-14
unfolding ask_at
returns-in-14 c = search number_is

pub returns-in-15 : goal.returns-in-15
unfolding ask_at
returns-in-15 c = search number_is

pub returns-in-16 : goal.returns-in-16
unfolding ask_at
returns-in-16 c = search number_is

pub returns-in-17 : goal.returns-in-17
unfolding ask_at
returns-in-17 c = search number_is

pub returns-in-18 : goal.returns-in-18
unfolding ask_at
returns-in-18 c = search number_is

pub returns-in-19 : goal.returns-in-19
unfolding ask_at
returns-in-19 c = search number_is

pub returns-in-20 : goal.returns-in-20
unfolding ask_at
returns-in-20 c = search number_is

pub returns-in_default : goal.returns-in_default
unfolding ask_at
returns-in_default c = search number_other
