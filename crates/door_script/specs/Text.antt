-- Text as a list of bytes.
use Rattle.std.specs.Prelude.{ℕ, List, [], ◌∷◌, eqb}
use Rattle.base_rules.specs.Basics.{choose}
use Prim.Native.Char.{code}
use Prim.Native.String.{String, [] as none, ◌∷◌ as ◌then◌}

abbrev pub bytes : String → List ℕ
bytes none = []
bytes (c then s) = code c ∷ bytes s

abbrev pub tab : ℕ
tab = 9

abbrev pub lf : ℕ
lf = 10

-- the bytes in front of the first `mark`, or all
unfoldable pub upto : ℕ → List ℕ → List ℕ
upto mark [] = []
upto mark (b ∷ l) = choose (eqb b mark) [] (b ∷ upto mark l)
