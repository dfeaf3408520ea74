-- What demand 3 speaks of: a new walk of a domain's tree, the frames recorded as its own, and what is a domain's to keep.
use Rattle.std.specs.Prelude.{ℕ, zero, suc, ◌+◌, ◌<◌, ◌≡◌, Bool, true, false, List, [], ◌∷◌, ◌++◌, eqb, ltb, length}
use Rattle.base_rules.specs.Basics.{choose}
use Rattle.book_ledger.specs.Codes.{TDR, TDCX, EPT, REG, BLOCKED_LIFE, TEARDOWN, WRITTEN_BACK, FREE, NL_MAPPED, NL_BLOCKED}
use Rattle.book_ledger.specs.declared.words.Domain.{Domain}
use Rattle.fact_keeps.specs.Views.{View, kind, owner, number, life, listed, children}

-- ---- the tables, read number by number

-- tables in stock, entries of a block, levels of a tree. (Trees of two depths: `deep` will be read from the domain's record.)
pub record Extent : Type 0 where
  pub tables : ℕ
  pub wide : ℕ
  pub deep : ℕ

-- ---- the new walk

-- a frame, and the type as which it was found
pub record Found : Type 0 where
  pub frame : ℕ
  pub type : ℕ

abbrev pub found : ℕ → ℕ → Found
found f t = record { frame = f; type = t }

-- what an entry's state says of its frame: a table, blocked or not; else a page; nothing only where it is FREE
pub data Shape : Type 0 where
  nothing : Shape
  table : Shape
  page : Shape

unfoldable pub shape_of : ℕ → Shape
shape_of state =
    choose (eqb state FREE) nothing (
    choose (eqb state NL_MAPPED) table (
    choose (eqb state NL_BLOCKED) table
    page))

abbrev pub shape : View → ℕ → ℕ → Shape
shape s b i = shape_of (s.entry b i).state

abbrev pub points : View → ℕ → ℕ → ℕ
points s b i = (s.entry b i).frame.0

-- what the walk reads: an entry's shape and frame, and the block of an EPT frame, which is its table's number
pub record Tree : Type 0 where
  pub shape : ℕ → ℕ → Shape
  pub points : ℕ → ℕ → ℕ
  pub below : ℕ → ℕ

abbrev pub tree : View → Tree
tree s = record { shape = shape s; points = points s; below = number s }

-- g 0, g 1, .. up to the one before n, one after the other
unfoldable pub each : {A : Type 0} → ℕ → (ℕ → List A) → List A
each zero g = []
each (suc n) g = each n g ++ g n

-- what one entry adds: its frame, and under a table what the walk of that table finds. (A large page will add all its frames.)
unfoldable pub branch : Shape → ℕ → List Found → List Found
branch nothing f rest = []
branch table f rest = found f EPT ∷ rest
branch page f rest = found f REG ∷ []

-- all frames of a tree of n levels, w entries to a block, that begins at block b
unfoldable pub walk : Tree → ℕ → ℕ → ℕ → List Found
walk t w zero b = []
walk t w (suc n) b = each w (λ i. branch (t.shape b i) (t.points b i) (walk t w n (t.below (t.points b i))))

-- A domain is named by its TDR's frame d. "block `tables + r` the root of record r"
abbrev pub root_block : Extent → View → ℕ → ℕ
root_block z s d = z.tables + number s d

abbrev pub tree_of : Extent → View → ℕ → List Found
tree_of z s d = walk (tree s) z.wide z.deep (root_block z s d)

unfoldable pub controls : View → ℕ → List Found
controls s d = each (listed s (number s d)) (λ i. found (s.control (number s d) i) TDCX ∷ [])

-- "its listed control pages and those a new walk of its tree finds, blocked branches included". (The pages of a domain's processors, and
-- the walks of its nested trees, will be further lists here.)
unfoldable pub finds : Extent → View → ℕ → List Found
finds z s d = controls s d ++ tree_of z s d

-- ---- "are exactly [..] each found once, with the recorded type, as many as its child count"

abbrev pub both : Bool → Bool → Bool
both true b = b
both false b = false

-- a test as a number: 1 where it passes
abbrev pub one : Bool → ℕ
one true = 1
one false = 0

abbrev pub same : Found → Found → Bool
same x y = both (eqb x.frame y.frame) (eqb x.type y.type)

unfoldable pub weight : (Found → ℕ) → List Found → ℕ
weight q [] = 0
weight q (x ∷ xs) = q x + weight q xs

-- how often x stands in a list
abbrev pub times : Found → List Found → ℕ
times x l = weight (λ y. one (same x y)) l

-- 1 where x's frame is recorded with x's type (2 to 4) and owner d, else 0
abbrev pub mine : View → ℕ → Found → ℕ
mine s d x = one (both (ltb TDR x.type) (both (eqb (kind s x.frame) x.type) (eqb (owner s x.frame) d)))

-- the list is exactly d's frames: each once and with its recorded type, none besides, and as many as d's child count
pub record Owns (s : View) (d : ℕ) (l : List Found) : Type 0 where
  pub once : (x : Found) → times x l ≡ mine s d x
  pub count : length l ≡ children s (number s d)

-- d is a domain "that still holds its key": before teardown, blocked and written back included
pub record Keyed (s : View) (d : ℕ) : Type 0 where
  pub tdr : kind s d ≡ TDR
  pub held : life s (number s d) ≡ TEARDOWN → ⊥

-- a list "less those reclaimed": without frame f
unfoldable pub without : ℕ → List Found → List Found
without f [] = []
without f (x ∷ l) = choose (eqb x.frame f) (without f l) (x ∷ without f l)

-- ---- "leaves every other domain's record, tree and frames alone"

pub record Belongs (s : View) (d f : ℕ) : Type 0 where
  pub type : TDR < kind s f
  pub owner : owner s f ≡ d

-- b is d's root, or the table of an EPT of d's
pub data Block (z : Extent) (s : View) (d b : ℕ) : Type 0 where
  root : b ≡ root_block z s d → Block z s d b
  below : (g : ℕ) → kind s g ≡ EPT → owner s g ≡ d → b ≡ number s g → Block z s d b

-- of domain e nothing moved but the scalars of its record, which are what `becomes` makes of them: its TDR, its control pages, its frames (none
-- lost, none gained), its tree and what it has in use are as they were
pub record Besides (becomes : Domain → Domain) (z : Extent) (s s' : View) (e : ℕ) : Type 0 where
  pub tdr : s'.frame e ≡ s.frame e
  pub record' : s'.domain (number s e) ≡ becomes (s.domain (number s e))
  pub pages : (i : ℕ) → s'.control (number s e) i ≡ s.control (number s e) i
  pub kept : (f : ℕ) → Belongs s e f → s'.frame f ≡ s.frame f
  pub gained : (f : ℕ) → Belongs s' e f → Belongs s e f
  pub tree : (b i : ℕ) → Block z s e b → i < z.wide → s'.entry b i ≡ s.entry b i
  -- and the in-use bits of its record and tables
  pub used : (b : ℕ) → Block z s e b → s'.used b ≡ s.used b

-- nothing of domain e moved, its record neither
abbrev pub Untouched : Extent → View → View → ℕ → Type 0
Untouched z s s' e = Besides (λ d. d) z s s' e

-- ---- request 5: "every domain in blocked becomes blocked and written back"

-- the lifecycle moves only from blocked, and every other field stays
abbrev pub written_back : Domain → Domain
written_back d = record {
  key = d.key;
  life = choose (eqb d.life BLOCKED_LIFE) WRITTEN_BACK d.life;
  op = d.op;
  listed = d.listed;
  children = d.children;
  epoch = d.epoch;
  width = d.width;
}

-- of domain e nothing moved but its lifecycle, if it was blocked
abbrev pub WrittenBack : Extent → View → View → ℕ → Type 0
WrittenBack z s s' e = Besides written_back z s s' e
