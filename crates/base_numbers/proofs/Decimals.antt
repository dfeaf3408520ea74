-- A number's digits, and that reading them gives the number back.
use Rattle.base_rules.specs.Basics.{◌≡◌, true, List, [], ◌∷◌, ◌++◌, ℕ, zero, suc, ◌+◌, ◌-◌, ◌*◌, ◌/◌, ◌%◌, ◌<◌, ◌≤◌, ltb, length, get_or, choose}
use Rattle.base_rules.proofs.Facts.{refl, ◌∙◌, ap, sym, arith, lt-ltb, le-ltb, le-leb, ltb-true, ltb-false, if_ne, if_true, if_le, choose_both, both_left}
use Rattle.base_rules.proofs.Facts.{both_right}
use Rattle.base_units.specs.Limits.{between}
use Rattle.base_numbers.specs.Number.{number_most, nought, is_digit, all_digits, value_from, number_from, number_read, digits_by, decimal}
use Rattle.std.specs.Prelude.{Some}

-- any number of divisions from n on gives the same digits
enough : (k m n : ℕ) → n ≤ k → n ≤ m → digits_by k n ≡ digits_by m n
unfolding digits_by choose
enough zero zero n h l = refl
enough zero (suc m) n h l = rw (lt-ltb n 10 (omega arith))
enough (suc k) zero n h l = rw (lt-ltb n 10 (omega arith))
enough (suc k) (suc m) n h l = choose_both (λ (t : List ℕ). t ≡ digits_by (suc m) n) (ltb n 10) _ _ (λ q. rw q)
    (λ q. let g = ltb-false n 10 q in rw (q, enough k m (n / 10) (omega arith) (omega arith)))

pub decimal_one : (n : ℕ) → n < 10 → decimal n ≡ (nought + n) ∷ []
unfolding digits_by choose
decimal_one n h = enough n (suc n) n (omega arith) (omega arith) ∙ rw (lt-ltb n 10 h)

pub decimal_more : (n : ℕ) → 10 ≤ n → decimal n ≡ decimal (n / 10) ++ ((nought + n % 10) ∷ [])
unfolding digits_by choose
decimal_more n h = enough n (suc n) n (omega arith) (omega arith) ∙ rw (le-ltb n 10 h, enough n (n / 10) (n / 10) (omega arith) (omega arith))

value_snoc : (v : ℕ) (ds : List ℕ) (d : ℕ) → value_from v (ds ++ (d ∷ [])) ≡ value_from v ds * 10 + (d - nought)
unfolding value_from
value_snoc v [] d = refl
value_snoc v (c ∷ ds) d = value_snoc (v * 10 + (c - nought)) ds d

digits_snoc : (ds : List ℕ) (d : ℕ) → all_digits ds ≡ true → d < 10 → all_digits (ds ++ ((nought + d) ∷ [])) ≡ true
unfolding all_digits between choose
digits_snoc [] d e h = rw (le-leb nought (nought + d) (omega arith), le-leb (nought + d) (nought + 9) (omega arith))
digits_snoc (c ∷ ds) d e h = rw (both_left (is_digit c) _ e) (digits_snoc ds d (both_right (is_digit c) _ e) h)

front : (ds es : List ℕ) → nought < get_or ds 0 0 → nought < get_or (ds ++ es) 0 0
front [] es h = absurd (omega arith)
front (d ∷ ds) es h = h

-- of a number's digits: they spell it, they are digits, and the first isn't 0 but for 0 itself
record Spells (n : ℕ) (ds : List ℕ) : Type 0 where
  pub value : value_from 0 ds ≡ n
  pub digits : all_digits ds ≡ true
  pub lead : 0 < n → nought < get_or ds 0 0

spells_one : (n : ℕ) → n < 10 → Spells n ((nought + n) ∷ [])
unfolding value_from all_digits
spells_one n h = record { value = omega arith; digits = digits_snoc [] n refl h; lead = λ l. omega arith }

spells_by : (k n : ℕ) → n ≤ k → Spells n (digits_by k n)
unfolding digits_by
spells_by zero n h = spells_one n (omega arith)
spells_by (suc k) n h = choose_both (Spells n) (ltb n 10) _ _ (λ q. spells_one n (ltb-true n 10 q))
    (λ q. let g = ltb-false n 10 q in let ds = digits_by k (n / 10) in let s = spells_by k (n / 10) (omega arith) in
    let d = digits_snoc ds (n % 10) s.digits (omega arith) in let v = value_snoc 0 ds (nought + n % 10) in
    record { value = v ∙ omega (arith, s.value); digits = d; lead = λ l. front ds _ (s.lead (omega arith)) })

reads : (n : ℕ) (ds : List ℕ) → Spells n ds → 0 < n → n ≤ number_most → Some n ≡ number_read ds
unfolding number_read number_from
reads n [] s l h = let f = s.lead l in absurd (omega arith)
reads n (d ∷ ds) s l h =
    let f : d ≡ nought → ⊥ = omega (arith, s.lead l) in let g : length (d ∷ ds) ≡ 0 → ⊥ = omega arith in
    let q : value_from 0 (d ∷ ds) ≤ number_most = omega (arith, s.value) in
    if_ne _ g (if_ne _ f (if_true _ s.digits (if_le _ q (ap Some (sym s.value)))))

-- for readers: what is written reads back as the number
pub read_back : (n : ℕ) → n ≤ number_most → number_read (decimal n) ≡ Some n
unfolding number_read digits_by choose
read_back zero h = refl
read_back (suc n) h = sym (reads (suc n) (decimal (suc n)) (spells_by (suc n) (suc n) (omega arith)) (omega arith) h)
