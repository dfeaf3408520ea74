-- What every reached state has beside the third demand: keys, records and tables, owners, and the root of a domain that isn't initialized.
use Rattle.std.specs.Prelude.{ℕ, ◌+◌, ◌<◌, ◌≡◌, true}
use Rattle.book_ledger.specs.Codes.{TDR, EPT, UNINITIALIZED, FREE}
use Rattle.fact_keeps.specs.Views.{View, kind, owner, number, key, op}
use Rattle.fact_ownership.specs.Owned.{Extent, Keyed, root_block}

-- the types whose number means a record or a table, and the block of that
pub data Numbered : ℕ → Type 0 where
  a_record : Numbered TDR
  a_table : Numbered EPT

abbrev pub block_of : Extent → {k : ℕ} → Numbered k → ℕ → ℕ
block_of z a_record n = z.tables + n
block_of z a_table n = n

-- block b is the root of a TDR's record, or the table of an EPT
pub data Holds (z : Extent) (s : View) (b : ℕ) : Type 0 where
  holds : (k f : ℕ) (nb : Numbered k) → kind s f ≡ k → block_of z nb (number s f) ≡ b → Holds z s b

pub record Always (z : Extent) (s : View) : Type 0 where
  -- no two domains before teardown share a key
  pub keys : (d e : ℕ) → Keyed s d → Keyed s e → key s (number s d) ≡ key s (number s e) → d ≡ e
  -- records in use and TDRs match one to one, tables in use and EPTs too: each frame's is in use, and no other frame's; what is in use is a frame's
  pub used : (k f : ℕ) (nb : Numbered k) → kind s f ≡ k → s.used (block_of z nb (number s f)) ≡ true
  pub unique : (k f g : ℕ) → Numbered k → kind s f ≡ k → kind s g ≡ k → number s f ≡ number s g → f ≡ g
  pub taken : (b : ℕ) → s.used b ≡ true → Holds z s b
  pub tables : (g : ℕ) → kind s g ≡ EPT → number s g < z.tables
  -- every owner is a TDR
  pub owners : (f : ℕ) → TDR < kind s f → kind s (owner s f) ≡ TDR
  -- the root of a domain that isn't initialized is FREE
  pub idle : (d : ℕ) → kind s d ≡ TDR → op s (number s d) ≡ UNINITIALIZED → (i : ℕ) → i < z.wide → (s.entry (root_block z s d) i).state ≡ FREE
