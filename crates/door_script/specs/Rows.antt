-- Document 01, "The calls" and "The script": a row for each call, its name, the units of its operands in table order, and the call that it makes
-- of their numbers, counted from 0. Then the requests' calls.
use Rattle.std.specs.Prelude.{ℕ, List, [], ◌∷◌}
use Prim.Native.String.{String}
use Rattle.base_units.specs.declared.address.{Hpa.Hpa, Gpa.Gpa}
use Rattle.base_calls.specs.declared.Call.{Call}

pub record Row : Type 0 where
  pub name : String
  pub units : List String
  pub call : (ℕ → ℕ) → Call

abbrev row : String → List String → ((ℕ → ℕ) → Call) → Row
row n u c = record { name = n; units = u; call = c }

abbrev hpa : ℕ → Hpa
hpa n = record { 0 = n }

abbrev gpa : ℕ → Gpa
gpa n = record { 0 = n }

abbrev pub create_row : Row
create_row = row "create" ("hpa" ∷ "key" ∷ []) (λ n. Call.Create (hpa (n 0)) (n 1))

abbrev pub rows : List Row
rows =
    create_row
    ∷ row "keyconfig" ("hpa" ∷ []) (λ n. Call.KeyConfig (hpa (n 0)))
    ∷ row "addcx" ("hpa" ∷ "hpa" ∷ []) (λ n. Call.AddCx (hpa (n 0)) (hpa (n 1)))
    ∷ row "init" ("hpa" ∷ []) (λ n. Call.Init (hpa (n 0)))
    ∷ row "septadd" ("hpa" ∷ "gpa" ∷ "level" ∷ "hpa" ∷ []) (λ n. Call.SeptAdd (hpa (n 0)) (gpa (n 1)) (n 2) (hpa (n 3)))
    ∷ row "pageadd" ("hpa" ∷ "gpa" ∷ "hpa" ∷ []) (λ n. Call.PageAdd (hpa (n 0)) (gpa (n 1)) (hpa (n 2)))
    ∷ row "finalize" ("hpa" ∷ []) (λ n. Call.Finalize (hpa (n 0)))
    ∷ row "pageaug" ("hpa" ∷ "gpa" ∷ "hpa" ∷ []) (λ n. Call.PageAug (hpa (n 0)) (gpa (n 1)) (hpa (n 2)))
    ∷ row "block" ("hpa" ∷ "gpa" ∷ "level" ∷ []) (λ n. Call.Block (hpa (n 0)) (gpa (n 1)) (n 2))
    ∷ row "track" ("hpa" ∷ []) (λ n. Call.Track (hpa (n 0)))
    ∷ row "unblock" ("hpa" ∷ "gpa" ∷ "level" ∷ []) (λ n. Call.Unblock (hpa (n 0)) (gpa (n 1)) (n 2))
    ∷ row "pageremove" ("hpa" ∷ "gpa" ∷ []) (λ n. Call.PageRemove (hpa (n 0)) (gpa (n 1)))
    ∷ row "septremove" ("hpa" ∷ "gpa" ∷ "level" ∷ []) (λ n. Call.SeptRemove (hpa (n 0)) (gpa (n 1)) (n 2))
    ∷ row "flushdone" ("hpa" ∷ []) (λ n. Call.FlushDone (hpa (n 0)))
    ∷ row "keyfree" ("hpa" ∷ []) (λ n. Call.KeyFree (hpa (n 0)))
    ∷ row "reclaim" ("hpa" ∷ []) (λ n. Call.Reclaim (hpa (n 0)))
    ∷ row "readpage" ("hpa" ∷ []) (λ n. Call.ReadPage (hpa (n 0)))
    ∷ row "readentry" ("hpa" ∷ "gpa" ∷ "level" ∷ []) (λ n. Call.ReadEntry (hpa (n 0)) (gpa (n 1)) (n 2))
    ∷ row "cachewb" [] (λ n. Call.CacheWb)
    ∷ []
