-- Document 01, "The script, and one whole run": its nine lines, byte for byte, what each is read as, and what each answers where every line before
-- it has been run.
use Rattle.std.specs.Prelude.{ℕ, ◌+◌, ◌≡◌, List, [], ◌∷◌, ◌++◌, Option, Some, None}
use Prim.Native.String.{String}
use Rattle.book_gauge.specs.{Fill.ratio, declared.Gauge.Gauge}
use Rattle.base_calls.specs.declared.Call.{Call}
use Rattle.door_script.specs.{Text.bytes, Lines.line_of}
use Rattle.door_answers.specs.Answers.{Pen, wrote}
use Rattle.door_session.specs.Session.{answered}
use Rattle.fact_cases.specs.Cases.{hpa, base, fresh_tables, run}

pub record Spoken : Type 0 where
  pub text : String
  pub is : Option Call
  pub answer : String

abbrev pub spoken : String → Option Call → String → Spoken
spoken t l a = record { text = t; is = l; answer = a }

-- an unreadable line has no call
unfoldable pub heard : Option Call → List Call
heard None = []
heard (Some c) = c ∷ []

-- Line n after the calls `before`: how it is read, what it writes behind the output so far, and the tables that it leaves to the next line; with the
-- program's marks, whatever the fill and the lamp.
pub record Says (n : ℕ) (before : List Call) (s : Spoken) : Type 0 where
  pub read : line_of (bytes s.text) ≡ s.is
  pub writes : (g : Gauge) → g.raise ≡ ratio 768 1024 → g.clear ≡ ratio 512 1024 → (p : Pen)
      → (answered base (run fresh_tables before) g (bytes s.text) n p).out ≡ wrote (bytes s.answer) p
  pub leaves : (g : Gauge) → g.raise ≡ ratio 768 1024 → g.clear ≡ ratio 512 1024 → (p : Pen)
      → (answered base (run fresh_tables before) g (bytes s.text) n p).tables ≡ run fresh_tables (before ++ heard s.is)

unfoldable pub AllSay : ℕ → List Call → List Spoken → Type 0
AllSay n before [] = Unit
AllSay n before (s ∷ ss) = Says n before s × AllSay (n + 1) (before ++ heard s.is) ss

-- "In and out, with a tab for each blank"
unfoldable pub whole_run : List Spoken
whole_run =
    spoken "create\thpa\t1073741824\tkey\t32" (Some (Call.Create (hpa 1073741824) 32)) "line\t1\tanswer\t0\n"
    ∷ spoken "create\thpa\t1073745920\tkey\t32" (Some (Call.Create (hpa 1073745920) 32)) "line\t2\tanswer\t10\n"
    ∷ spoken "create\thpa\t1073741824\tkey\t33" (Some (Call.Create (hpa 1073741824) 33)) "line\t3\tanswer\t2\n"
    ∷ spoken "create\thpa\t262144\tkey\t33" (Some (Call.Create (hpa 262144) 33)) "line\t4\tanswer\t1\n"
    ∷ spoken "create\tpfn\t262144\tkey\t33" None "line\t5\tanswer\t15\n"
    ∷ spoken "keyconfig\thpa\t1073741824" (Some (Call.KeyConfig (hpa 1073741824))) "line\t6\tanswer\t0\n"
    ∷ spoken "addcx\thpa\t1073741824\thpa\t1073745920" (Some (Call.AddCx (hpa 1073741824) (hpa 1073745920))) "line\t7\tanswer\t0\n"
    ∷ spoken "readpage\thpa\t1073745920" (Some (Call.ReadPage (hpa 1073745920))) "line\t8\tanswer\t0\ttype\t2\towner\t1073741824\n"
    ∷ spoken "init\thpa\t1073741824" (Some (Call.Init (hpa 1073741824))) "line\t9\tanswer\t4\n"
    ∷ []
