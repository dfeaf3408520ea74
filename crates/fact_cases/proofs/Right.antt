-- Every marked case answers as the paper says.
use Rattle.base_rules.specs.Basics.{◌≡◌, Bool, true, false, List, [], ◌∷◌, ℕ, length, eqb, choose, need, given}
use Rattle.base_rules.proofs.Facts.{refl, ap, ◌∙◌, eqb-true, both_left, both_right}
use lib.Count.{ones}
use Rattle.base_units.specs.Limits.{between, frames_ok, base_ok}
use Rattle.book_gauge.specs.{Fill.ratio, Update.fresh_gauge as reset, declared.Gauge.Gauge}
use Rattle.book_gauge.proofs.Laws.{program_ok}
use Rattle.book_ledger.specs.{Tables.Tables, Sizes.tables_of, Sizes.sizes_of, Sizes.lengths_ok, Sizes.sizes_ok}
use Rattle.book_range.specs.Range.{lent_ok}
use Rattle.base_calls.specs.{Answers.values_of, declared.Call.Call, declared.Values.Values}
use Rattle.call_carry.specs.Carry.{carried}
use Rattle.call_host.specs.Calls.{Outcome, plan_of, settled, rule_of, call_of}
use Rattle.fact_keeps.proofs.{Ranged.of_lent, Fresh.zeros_lent, Keeps.rule_keeps}
use Rattle.fact_cases.specs.Cases.{base, fresh_tables, run, Case, AllRight, marked}
use Rattle.fact_cases.proofs.Open.{call_open}

-- where 13 has nothing to say, the outcome is the rule's
pub past_13 : (t : Tables) (g : Gauge) (c : Call) → length t.frames ≡ 1024 → lent_ok base t ≡ true → g.raise ≡ ratio 768 1024 → g.clear ≡ ratio 512 1024
    → call_of base t g c ≡ rule_of base t g c
unfolding call_of choose
past_13 t g c n l r k = rw (l, r, k, n, program_ok)

-- ---- and it has nothing to say of the tables on the way: no call leaves tables out of range that were in it
pub run_ok : (t : Tables) → lent_ok base t ≡ true → (cs : List Call) → lent_ok base (run t cs) ≡ true
unfolding run rule_of settled
run_ok t ok [] = ok
run_ok t ok (c ∷ cs) = run_ok (carried t (plan_of base t c)).tables (rule_keeps base t ok reset c) cs

pub start : lent_ok base fresh_tables ≡ true
unfolding sizes_ok sizes_of tables_of lengths_ok frames_ok base_ok between ones given choose
start = of_lent base fresh_tables (zeros_lent base fresh_tables refl)

-- ---- a list of cases judged at once, by a test

unfoldable pub same : List ℕ → List ℕ → Bool
same [] [] = true
same (a ∷ xs) (b ∷ ys) = need (eqb a b) false (same xs ys)
same [] (b ∷ ys) = false
same (a ∷ xs) [] = false

same_is : (xs ys : List ℕ) → same xs ys ≡ true → xs ≡ ys
unfolding same
same_is [] [] h = refl
same_is (a ∷ xs) (b ∷ ys) h = cc (eqb-true a b (both_left (eqb a b) (same xs ys) h), same_is xs ys (both_right (eqb a b) (same xs ys) h))
same_is [] (b ∷ ys) h = cc
same_is (a ∷ xs) [] h = cc

-- the tables that a case's last call meets, and what the call's rule reads out there
abbrev met : Case → Tables
met c = run fresh_tables c.before

abbrev read : Case → Values
read c = values_of (carried (met c) (plan_of base (met c) c.then)).answer

abbrev row : ℕ → Values → List ℕ
row n v = n ∷ v.number ∷ v.kind ∷ v.owner.0 ∷ v.level ∷ v.state ∷ v.hpa.0 ∷ []

abbrev values : (a b c d e f : ℕ) → Values
values a b c d e f = record { number = a; kind = b; owner = record { 0 = c }; level = d; state = e; hpa = record { 0 = f } }

row_is : (v w : Values) (n : ℕ) → row n v ≡ row 1024 w → (n ≡ 1024) × (v ≡ w)
row_is v w n h = (cc, go)
  where
    go : values v.number v.kind v.owner.0 v.level v.state v.hpa.0 ≡ values w.number w.kind w.owner.0 w.level w.state
        w.hpa.0
    go = cc

unfoldable pub holds : List Case → Bool
holds [] = true
holds (c ∷ cs) = need (same (row (length (met c).frames) (read c)) (row 1024 c.says)) false (holds cs)

pub all_right : (cs : List Case) → holds cs ≡ true → AllRight cs
unfolding holds AllRight rule_of settled
all_right [] h = tt
all_right (c ∷ cs) h =
    let t = same (row (length (met c).frames) (read c)) (row 1024 c.says) in
    let e = row_is (read c) c.says _ (same_is (row (length (met c).frames) (read c)) (row 1024 c.says) (both_left t (holds cs) h)) in (
      λ g r k. ap (λ (o : Outcome). values_of o.answer) (past_13 (met c) g c.then e.0 (run_ok fresh_tables start c.before) r k) ∙ e.1,
      all_right cs (both_right t (holds cs) h),
    )

-- Every marked case of the paper answers as it says.
pub marked_right : AllRight marked
unfolding marked holds same run call_open
marked_right = all_right marked refl
