-- Document 01, "The script": the line of each call that the whole run leaves out, its operands numbered by their place, and what it is read as. Request 5's
-- is the name alone.
use Rattle.std.specs.Prelude.{◌≡◌, List, [], ◌∷◌, Some}
use Prim.Native.String.{String}
use Rattle.base_calls.specs.declared.Call.{Call}
use Rattle.door_script.specs.{Text.bytes, Lines.line_of}
use Rattle.fact_cases.specs.Cases.{hpa, gpa}

pub record Spelt : Type 0 where
  pub text : String
  pub call : Call

abbrev spelt : String → Call → Spelt
spelt t c = record { text = t; call = c }

unfoldable pub AllRead : List Spelt → Type 0
AllRead [] = Unit
AllRead (s ∷ ss) = (line_of (bytes s.text) ≡ Some s.call) × AllRead ss

unfoldable pub lines : List Spelt
lines =
    spelt "septadd\thpa\t0\tgpa\t1\tlevel\t2\thpa\t3" (Call.SeptAdd (hpa 0) (gpa 1) 2 (hpa 3))
    ∷ spelt "pageadd\thpa\t0\tgpa\t1\thpa\t2" (Call.PageAdd (hpa 0) (gpa 1) (hpa 2))
    ∷ spelt "finalize\thpa\t0" (Call.Finalize (hpa 0))
    ∷ spelt "pageaug\thpa\t0\tgpa\t1\thpa\t2" (Call.PageAug (hpa 0) (gpa 1) (hpa 2))
    ∷ spelt "block\thpa\t0\tgpa\t1\tlevel\t2" (Call.Block (hpa 0) (gpa 1) 2)
    ∷ spelt "track\thpa\t0" (Call.Track (hpa 0))
    ∷ spelt "unblock\thpa\t0\tgpa\t1\tlevel\t2" (Call.Unblock (hpa 0) (gpa 1) 2)
    ∷ spelt "pageremove\thpa\t0\tgpa\t1" (Call.PageRemove (hpa 0) (gpa 1))
    ∷ spelt "septremove\thpa\t0\tgpa\t1\tlevel\t2" (Call.SeptRemove (hpa 0) (gpa 1) 2)
    ∷ spelt "flushdone\thpa\t0" (Call.FlushDone (hpa 0))
    ∷ spelt "keyfree\thpa\t0" (Call.KeyFree (hpa 0))
    ∷ spelt "reclaim\thpa\t0" (Call.Reclaim (hpa 0))
    ∷ spelt "readentry\thpa\t0\tgpa\t1\tlevel\t2" (Call.ReadEntry (hpa 0) (gpa 1) 2)
    ∷ spelt "cachewb" Call.CacheWb
    ∷ []
