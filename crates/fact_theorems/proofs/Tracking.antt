-- Request 2: while a domain is initialized no call on it answers 8.
use Rattle.base_rules.specs.Basics.{◌≡◌, Bool, true, false, List, [], ◌∷◌, ℕ, eqb, choose, need}
use Rattle.base_rules.proofs.Facts.{refl, arith, eq-eqb, both_left, both_right}
use Rattle.base_units.specs.declared.address.{Hpa.Hpa, Pfn.Pfn}
use Rattle.book_gauge.specs.declared.Gauge.{Gauge}
use Rattle.book_ledger.specs.{Codes.INITIALIZED, Tables.Tables}
use Rattle.base_calls.specs.declared.Call.{Call}
use Rattle.call_plan.specs.Entries.{is_tracked}
use Rattle.call_plan.specs.declared.lookup.Subject.{Subject}
use Rattle.fact_theorems.specs.{Order.Reason, Order.number, Order.Check, Order.check, Order.first_no}
use Rattle.fact_theorems.specs.{Checks.domain_at_hpa, Checks.all_checks, Checks.checks_of}
use Rattle.fact_theorems.specs.Tracking.{NotEight, NoTracking}
use Rattle.fact_theorems.proofs.Answers.{answered}

-- no check of the number n fails
unfoldable holds : ℕ → List Check → Bool
holds n [] = true
holds n (c ∷ cs) = need (choose (eqb (number c.why) n) c.well true) false (holds n cs)

-- then n isn't given
module _ (n : ℕ) (above : n ≡ 0 → ⊥) where
  by_one : (w : Reason) (b : Bool) (cs : List Check) → (holds n cs ≡ true → first_no cs ≡ n → ⊥) → holds n (check w b ∷ cs) ≡ true
      → first_no (check w b ∷ cs) ≡ n → ⊥
  unfolding holds first_no choose
  by_one w true cs f h e = f (both_right (choose (eqb (number w) n) true true) (holds n cs) h) e
  by_one w false cs f h e =
      let passed : false ≡ true = rw (eq-eqb (number w) n e) at (both_left (choose (eqb (number w) n) false true) (holds n cs) h) in
      let z : ◌≡◌ {A = ℕ} 0 1 = cc in
      omega arith

  not_given : (cs : List Check) → holds n cs ≡ true → first_no cs ≡ n → ⊥
  unfolding holds first_no
  not_given [] h e = above (omega arith)
  not_given (c ∷ cs) h e = by_one c.why c.well cs (not_given cs) h e

-- in an initialized domain what is asked for always holds
tracked_building : (fs : List ℕ) (x : Subject) → x.dom.op ≡ INITIALIZED → (n : Pfn) → is_tracked fs n x ≡ true
unfolding is_tracked choose
tracked_building fs x h n = rw (eq-eqb x.dom.op INITIALIZED h) refl

module _ (base : Hpa) (t : Tables) (g : Gauge) where
  not_eight : (c : Call) → holds 8 (all_checks base t g c) ≡ true → NotEight base t g c
  not_eight c s e = not_given 8 (λ z. omega arith) (all_checks base t g c) s (rw (answered base t g c) at e)

  -- While D is initialized none of the three calls answers 8.
  pub no_tracking : NoTracking base t g
  unfolding holds checks_of choose
  no_tracking d h =
      let tracked = tracked_building t.frames (domain_at_hpa base t d) h in
      record {
        unblock = λ gpa level. not_eight (Call.Unblock d gpa level) (rw (tracked _) refl);
        pageremove = λ gpa. not_eight (Call.PageRemove d gpa) (rw (tracked _) refl);
        septremove = λ gpa level. not_eight (Call.SeptRemove d gpa level) (rw (tracked _) refl);
      }
