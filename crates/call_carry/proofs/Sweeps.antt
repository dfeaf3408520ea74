-- Laws of a sweep: how long the words are, a turn of the loop, and its end.
use Rattle.base_rules.specs.Basics.{◌≡◌, List, ℕ, zero, suc, ◌+◌, ◌-◌, ◌/◌, ◌<◌, ◌≤◌, length, given}
use Rattle.base_rules.proofs.Facts.{refl, ap, ◌∙◌, arith, choose_both}
use Rattle.base_units.specs.Limits.{record_words}
use Rattle.book_ledger.specs.{Tables.Tables, Tables.lent, Tables.set_domain}
use Rattle.book_ledger.proofs.Lens.{word_length}
use Rattle.call_plan.specs.declared.edit.Sweep.{Sweep}
use Rattle.call_carry.specs.Carry.{swept_at, swept_from, swept, swept_record, swept_tables}

module _ (w : Sweep) (st : List ℕ) (entries : ℕ) where
  pub swept_at_length : (r : ℕ) (ds : List ℕ) → length (swept_at w st entries r ds) ≡ length ds
  unfolding swept_at given set_domain
  swept_at_length r ds =
      let P : List ℕ → Type 0 = λ x. length x ≡ length ds in
      choose_both P _ _ ds (λ _. choose_both P _ _ ds (λ _. word_length ds r 0 _) (λ _. refl)) (λ _. refl)

  swept_from_length : (k r : ℕ) (ds : List ℕ) → length (swept_from w st entries r k ds) ≡ length ds
  unfolding swept_from
  swept_from_length zero r ds = refl
  swept_from_length (suc k) r ds = swept_from_length k (r + 1) (swept_at w st entries r ds) ∙ swept_at_length r ds

  pub swept_length : (ds : List ℕ) → length (swept w st entries ds) ≡ length ds
  unfolding swept
  swept_length ds = swept_from_length (length ds / record_words) 0 ds

  -- the words after r turns, from what they were
  pub record Sweeping (old ds : List ℕ) (r : ℕ) : Type 0 where
    pub size : length ds ≡ length old
    pub rest : swept w st entries old ≡ swept_from w st entries r (length old / record_words - r) ds

  pub sweeping_none : (old : List ℕ) → Sweeping old old 0
  unfolding swept
  sweeping_none old = record { size = refl; rest = ap (λ (k : ℕ). swept_from w st entries 0 k old) (omega arith) }

  pub sweeping_more : {old ds ds' : List ℕ} {r : ℕ} → Sweeping old ds r → r < length old / record_words → ds' ≡ swept_at w st entries r ds
      → Sweeping old ds' (r + 1)
  unfolding swept_from
  sweeping_more {old} {ds} {ds'} {r} s h e =
      let k : length old / record_words - r ≡ suc (length old / record_words - (r + 1)) = omega arith in
      record { size = rw e (swept_at_length r ds ∙ s.size); rest = s.rest ∙ rw (k, e) refl }

  pub sweeping_end : {old ds : List ℕ} {r : ℕ} → Sweeping old ds r → length old / record_words ≤ r → ds ≡ swept w st entries old
  unfolding swept_from
  sweeping_end {old} {ds} {r} s h =
      let k : length old / record_words - r ≡ 0 = omega arith in
      rw (s.rest, k) refl

-- one record of the tables t, looked at as u
pub swept_by : (w : Sweep) (r : ℕ) {t u : Tables} {ds : List ℕ} → u ≡ t → ds ≡ swept_at w u.stock (length u.entries) r u.domains
    → lent t.frames ds t.stock t.entries ≡ swept_record w r t
unfolding swept_record
swept_by w r {t = t} e h = ap (λ (ds : List ℕ). lent t.frames ds t.stock t.entries) (rw e at h)

-- the tables after r turns, from what they were
pub record SweepingTables (w : Sweep) (old t : Tables) (r : ℕ) : Type 0 where
  pub frames : t.frames ≡ old.frames
  pub stock : t.stock ≡ old.stock
  pub entries : t.entries ≡ old.entries
  pub domains : Sweeping w old.stock (length old.entries) old.domains t.domains r

pub tables_none : (w : Sweep) (t : Tables) → SweepingTables w t t 0
tables_none w t = record { frames = refl; stock = refl; entries = refl; domains = sweeping_none w t.stock (length t.entries) t.domains }

pub tables_more : {w : Sweep} {old t t' : Tables} {r : ℕ} → SweepingTables w old t r → r < length old.domains / record_words
    → t' ≡ swept_record w r t → SweepingTables w old t' (r + 1)
unfolding swept_record
tables_more {w} {old} {t} {t'} {r} s h e = record {
  frames = ap (λ (x : Tables). x.frames) e ∙ s.frames;
  stock = ap (λ (x : Tables). x.stock) e ∙ s.stock;
  entries = ap (λ (x : Tables). x.entries) e ∙ s.entries;
  domains = sweeping_more w old.stock (length old.entries) s.domains h (ap (λ (x : Tables). x.domains) e ∙ rw (s.stock, s.entries) refl);
}

pub tables_end : {w : Sweep} {old t : Tables} {r : ℕ} → SweepingTables w old t r → length old.domains / record_words ≤ r → t ≡ swept_tables w old
unfolding swept_tables
tables_end {w} {old} {t} s h = rw (← s.frames, ← s.stock, ← s.entries) (ap (λ (ds : List ℕ). lent t.frames ds t.stock t.entries) (sweeping_end w _ _ (rw (← s.stock, ← s.entries) at s.domains) h))
