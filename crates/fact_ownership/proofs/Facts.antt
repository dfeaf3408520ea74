-- What the operands, the domain, the walk and the entry of a call are in a sound state: each rule of plan/specs inverted once, for all calls.
-- A refusal on the way is mild: neither 13 nor 14.
use Rattle.std.specs.Prelude.{Ok, Err}
use Rattle.base_rules.specs.Basics.{◌≡◌, ℕ, ◌<◌, choose}
use Rattle.base_rules.proofs.Facts.{refl, arith, eq-eqb, ne_eqb, by_eq}
use Rattle.book_ledger.specs.Codes.{FREE, NL_MAPPED, NL_BLOCKED}
use Rattle.book_walk.specs.Walk.{entry_type}
use Rattle.base_calls.specs.{Answers.values_of, Answers.number_of, Answers.number_of_fault, declared.Fault.Fault, declared.Refusal.Refusal}
use Rattle.fact_ownership.specs.Owned.{nothing, table, shape_of}
use Rattle.fact_keeps.specs.Views.{kind}
use Rattle.fact_ownership.proofs.Cases.{Fits, fits_table, fits_page}
use Rattle.base_calls.specs.declared.{Reading.Reading, Refusal.TheVariants.No, Refusal.TheVariants.Stop}
use Rattle.fact_keeps.proofs.Says.{Mostly}
use Rattle.base_calls.specs.declared.Reading.TheVariants.{Done, Page, Entry}

-- ---- answers

-- a refusal that is neither 13 nor 14
pub record Mild (r : Refusal) : Type 0 where
  pub few : number_of (Err r) < 13

pub mild_no : Mostly Mild
unfolding values_of
mild_no w k h = record { few = h }

pub mild_stop : (w : Fault) (k j : ℕ) → number_of_fault w < 13 → Mild (Stop w k j)
unfolding values_of
mild_stop w k j h = record { few = h }

-- an accepted call has the number 0, with what it reads; a refusal has none that is 0
fault_some : (w : Fault) → 0 < number_of_fault w
fault_some w = elim w as (λ x. 0 < number_of_fault x) [
  | Fault.Operand ↦ omega arith
  | Fault.Kind ↦ omega arith
  | Fault.Life ↦ omega arith
  | Fault.Pages ↦ omega arith
  | Fault.OpState ↦ omega arith
  | Fault.Walk ↦ omega arith
  | Fault.State ↦ omega arith
  | Fault.Untracked ↦ omega arith
  | Fault.Remains ↦ omega arith
  | Fault.Key ↦ omega arith
  | Fault.Stock ↦ omega arith
  | Fault.Epoch ↦ omega arith
  | Fault.Range ↦ omega arith
  | Fault.Link ↦ omega arith
  | Fault.Unreadable ↦ omega arith
]

pub refused_some : (r : Refusal) → 0 < number_of (Err r)
unfolding values_of
refused_some (No w k) = fault_some w
refused_some (Stop w l s) = fault_some w

pub reads_none : (r : Reading) → number_of (Ok r) ≡ 0
unfolding values_of
reads_none Done = refl
reads_none (Page kind owner) = refl
reads_none (Entry level state h) = refl

-- ---- an entry's state

pub free_shape : (n : ℕ) → n ≡ FREE → shape_of n ≡ nothing
unfolding shape_of choose
free_shape n e = rw (eq-eqb n FREE e) refl

pub table_shape : (n : ℕ) → n ≡ NL_MAPPED → shape_of n ≡ table
unfolding shape_of choose
table_shape n e = rw e refl

pub fits_state : (n : ℕ) → (n ≡ FREE → ⊥) → Fits (shape_of n) (entry_type n)
unfolding shape_of entry_type choose
fits_state n h = by_eq n NL_MAPPED (λ a. rw a fits_table) (λ a. by_eq n NL_BLOCKED (λ b. rw b fits_table)
    (λ b. rw (ne_eqb n FREE h, ne_eqb n NL_MAPPED a, ne_eqb n NL_BLOCKED b) fits_page))
