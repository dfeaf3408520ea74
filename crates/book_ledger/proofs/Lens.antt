-- Reading after writing: at the same place what was written, at another place what stood there. (Another table is another
-- field of `Tables`: nothing to prove.)
use Rattle.base_rules.specs.Basics.{◌≡◌, List, ℕ, ◌+◌, ◌*◌, ◌%◌, ◌<◌, length}
use Rattle.base_rules.proofs.Facts.{ap, ◌∙◌, arith, length-set, get_or-set_same, get_or-set_other}
use Rattle.base_units.specs.{Limits.table_entries, Limits.control_pages, Limits.record_words, declared.address.Pfn.Pfn}
use Rattle.book_ledger.specs.declared.words.{Frame.Frame, Domain.Domain, Entry.Entry}
use Rattle.book_ledger.specs.Words.{frame_from, frame_word, FrameFits, domain_from, domain_word, DomainFits, entry_from, entry_word, EntryFits}
use Rattle.book_ledger.specs.Tables.{frame_at, set_frame, record_word, set_record_word, domain_at, set_domain, page_at, set_page, entry_at, set_entry}
use Rattle.book_ledger.proofs.Packing.{frame_back, domain_back, entry_back}

-- ---- frames
module _ (fs : List ℕ) (n : Pfn) (f : Frame) where
  pub frame_same : n.0 < length fs → FrameFits f → frame_at (set_frame fs n f) n ≡ f
  unfolding frame_at set_frame
  frame_same h r = ap frame_from (get_or-set_same fs n.0 (frame_word f) 0 h) ∙ frame_back f r

  pub frame_other : (m : Pfn) → (m.0 ≡ n.0 → ⊥) → frame_at (set_frame fs n f) m ≡ frame_at fs m
  unfolding frame_at set_frame
  frame_other m d = ap frame_from (get_or-set_other fs n.0 m.0 (frame_word f) 0 d)

  pub frame_length : length (set_frame fs n f) ≡ length fs
  unfolding set_frame
  frame_length = simp length-set

-- ---- records: word k of record r, of which word 0 holds the scalars and word 1 + i control page i
module _ (ds : List ℕ) (r k w : ℕ) where
  pub word_other : (s j : ℕ) → (s ≡ r → j % record_words ≡ k % record_words → ⊥) → record_word (set_record_word ds r k w) s j ≡ record_word ds s j
  unfolding record_word set_record_word
  word_other s j d = get_or-set_other ds (r * record_words + k % record_words) (s * record_words + j % record_words) w 0 (λ q. d (omega arith) (omega arith))

  pub word_length : length (set_record_word ds r k w) ≡ length ds
  unfolding set_record_word
  word_length = simp length-set

module _ (ds : List ℕ) (r : ℕ) (d : Domain) where
  pub domain_same : r * record_words < length ds → DomainFits d → domain_at (set_domain ds r d) r ≡ d
  unfolding domain_at set_domain record_word set_record_word
  domain_same h f = ap domain_from (get_or-set_same ds (r * record_words + 0) (domain_word d) 0 (omega arith)) ∙ domain_back d f

  pub domain_other : (s : ℕ) → (s ≡ r → ⊥) → domain_at (set_domain ds r d) s ≡ domain_at ds s
  unfolding domain_at set_domain
  domain_other s n = ap domain_from (word_other ds r 0 (domain_word d) s 0 (λ e q. n e))

  pub page_of_domain : (s i : ℕ) → page_at (set_domain ds r d) s i ≡ page_at ds s i
  unfolding page_at set_domain
  page_of_domain s i = ap (λ (x : ℕ). record { 0 = x }) (word_other ds r 0 (domain_word d) s (1 + i % control_pages) (λ e q. omega arith))

module _ (ds : List ℕ) (r i : ℕ) (n : Pfn) where
  pub page_same : r * record_words + (1 + i % control_pages) < length ds → page_at (set_page ds r i n) r i ≡ n
  unfolding page_at set_page record_word set_record_word
  page_same h = ap (λ (x : ℕ). record { 0 = x }) (get_or-set_same ds (r * record_words + (1 + i % control_pages) % record_words) n.0 0 (omega arith))

  pub page_other : (s j : ℕ) → (s ≡ r → j % control_pages ≡ i % control_pages → ⊥) → page_at (set_page ds r i n) s j ≡ page_at ds s j
  unfolding page_at set_page
  page_other s j d = ap (λ (x : ℕ). record { 0 = x }) (word_other ds r (1 + i % control_pages) n.0 s (1 + j % control_pages) (λ e q. d e (omega arith)))

  pub domain_of_page : (s : ℕ) → domain_at (set_page ds r i n) s ≡ domain_at ds s
  unfolding domain_at set_page
  domain_of_page s = ap domain_from (word_other ds r (1 + i % control_pages) n.0 s 0 (λ e q. omega arith))

-- ---- entries
module _ (es : List ℕ) (b i : ℕ) (e : Entry) where
  pub entry_same : b * table_entries + i % table_entries < length es → EntryFits e → entry_at (set_entry es b i e) b i ≡ e
  unfolding entry_at set_entry
  entry_same h f = ap entry_from (get_or-set_same es (b * table_entries + i % table_entries) (entry_word e) 0 h) ∙ entry_back e f

  pub entry_other : (c j : ℕ) → (c ≡ b → j % table_entries ≡ i % table_entries → ⊥) → entry_at (set_entry es b i e) c j ≡ entry_at es c j
  unfolding entry_at set_entry
  entry_other c j d =
      ap entry_from (get_or-set_other es (b * table_entries + i % table_entries) (c * table_entries + j % table_entries) _ 0 (λ q. d (omega arith) (omega arith)))

  pub entry_length : length (set_entry es b i e) ≡ length es
  unfolding set_entry
  entry_length = simp length-set
