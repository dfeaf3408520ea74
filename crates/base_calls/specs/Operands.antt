-- The operand at fault, by its place in the call: from 0, in the order of the paper's table of calls.
use Rattle.base_rules.specs.Basics.{ℕ}

-- the domain's TDR, with which every call on a domain begins
abbrev pub D : ℕ
D = 0

abbrev pub GPA : ℕ
GPA = 1

abbrev pub LEVEL : ℕ
LEVEL = 2

-- the frame: alone or with a key (create, reclaim, readpage), after D (addcx), after D and a gpa (pageadd, pageaug), after a level (septadd)
abbrev pub F·alone : ℕ
F·alone = 0

abbrev pub F·addcx : ℕ
F·addcx = 1

abbrev pub F·page : ℕ
F·page = 2

abbrev pub F·septadd : ℕ
F·septadd = 3

abbrev pub KEY : ℕ
KEY = 1

-- no operand of its own
abbrev pub NONE : ℕ
NONE = 0
