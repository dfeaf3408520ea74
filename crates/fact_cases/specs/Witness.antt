-- A state that calls reach, so that no premise of the third demand is empty: a domain in teardown with a frame left, beside one that holds its key, and one
-- that is blocked and written back and holds it too.
use Rattle.std.specs.Prelude.{◌≡◌, List, [], ◌∷◌}
use Rattle.book_ledger.specs.{Codes.TDR, Codes.TEARDOWN, Codes.WRITTEN_BACK, Tables.Tables}
use Rattle.base_calls.specs.declared.Call.{Call}
use Rattle.fact_keeps.specs.Views.{kind, number, life, view}
use Rattle.fact_ownership.specs.{Owned.Keyed, Owned.Belongs, Reached.Lists, Reached.Reached}
use Rattle.fact_cases.specs.Cases.{hpa, base}

-- frame 0 is the TDR of the first domain, frame 1 its control page, frame 2 the TDR of the second, frame 3 that of the third
abbrev pub beside : List Call
beside =
    Call.Create (hpa 1073741824) 32
    ∷ Call.KeyConfig (hpa 1073741824)
    ∷ Call.AddCx (hpa 1073741824) (hpa 1073745920)
    ∷ Call.FlushDone (hpa 1073741824)
    ∷ Call.CacheWb
    ∷ Call.KeyFree (hpa 1073741824)
    ∷ Call.Create (hpa 1073750016) 32
    ∷ Call.Create (hpa 1073754112) 33
    ∷ Call.FlushDone (hpa 1073754112)
    ∷ Call.CacheWb
    ∷ []

pub record Witness (t : Tables) : Type 0 where
  pub lists : Lists
  pub reached : Reached base t lists
  pub freed : kind (view t) 0 ≡ TDR
  pub teardown : life (view t) (number (view t) 0) ≡ TEARDOWN
  pub left : Belongs (view t) 0 1
  pub keyed : Keyed (view t) 2
  pub written : life (view t) (number (view t) 3) ≡ WRITTEN_BACK
  pub written_keyed : Keyed (view t) 3
