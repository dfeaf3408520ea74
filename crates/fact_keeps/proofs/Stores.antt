-- What an edit leaves of the tables, read number by number: one law for each of its parts, over whatever the part says.
use Rattle.std.specs.Prelude.{Some, None}
use Rattle.base_rules.specs.Basics.{◌≡◌, Bool, true, false, List, ℕ, ◌+◌, ◌*◌, ◌/◌, ◌%◌, ◌<◌, eqb, length, get_or, choose}
use Rattle.base_rules.proofs.Facts.{refl, sym, ap, ◌∙◌, arith, eqb-true, eqb-false, if_eq, if_ne, choose_both}
use Rattle.base_units.specs.{Limits.table_entries, Limits.control_pages, Limits.record_words, declared.address.Pfn.Pfn}
use Rattle.book_stock.specs.{Bits.in_use, Bits.set_use, Wipe.wiped_at}
use Rattle.book_stock.proofs.{Uses.use_length, Uses.use_same, Uses.use_other, Wipes.wiped_length, Wipes.wiped_in, Wipes.wiped_other}
use Rattle.book_ledger.specs.Tables.{Tables, frame_at, record_word, domain_at, page_at, entry_at, set_domain, set_page}
use Rattle.book_ledger.specs.Words.{domain_from, entry_from}
use Rattle.book_ledger.specs.declared.words.{Frame.Frame, Domain.Domain, Entry.Entry}
use Rattle.book_ledger.proofs.Lens.{frame_same, frame_other, frame_length, word_length, domain_same, domain_other, page_of_domain, page_same, page_other}
use Rattle.book_ledger.proofs.Lens.{domain_of_page, entry_same, entry_other, entry_length}
use Rattle.call_plan.specs.declared.edit.{StockEdit.StockEdit, Edit.Edit}
use Rattle.call_plan.proofs.Parts.{edit}
use Rattle.call_carry.specs.Carry.{after_frame, after_page, after_domain, after_entry, after_use, after_record, after_block, applied}
use Rattle.fact_keeps.specs.Views.{View, view, frame as pfn}
use Rattle.fact_keeps.proofs.{Facts.DomainGood, Facts.domain_fits, Frames.frame_fits, Frames.entry_fits}
use Rattle.fact_keeps.proofs.Ranged.{IsBlock, Sized, frame_good, entry_good, sizes_in}
use Rattle.call_plan.specs.Edits.{FrameEdit, PageEdit, DomainEdit, EntryEdit, to_entry}

-- ---- what each part leaves of a view

-- a choice by a ≡ b is what each case says
chosen : {A : Type 0} {x v y : A} (a b : ℕ) → (a ≡ b → x ≡ v) → ((a ≡ b → ⊥) → x ≡ y) → x ≡ choose (eqb a b) v y
chosen {x = x} a b f g = choose_both (λ c. x ≡ c) (eqb a b) _ _ (λ e. f (eqb-true a b e)) (λ e. g (eqb-false a b e))

abbrev pub stored : {A : Type 0} → (ℕ → A) → ℕ → A → ℕ → A
stored g n v k = choose (eqb k n) v (g k)

pub stored_at : {A : Type 0} (g : ℕ → A) (n : ℕ) (v : A) (k : ℕ) → k ≡ n → stored g n v k ≡ v
stored_at g n v k e = sym (if_eq (g k) e refl)

pub stored_same : {A : Type 0} (g : ℕ → A) (n : ℕ) (v : A) → stored g n v n ≡ v
stored_same g n v = stored_at g n v n refl

pub stored_other : {A : Type 0} (g : ℕ → A) (n : ℕ) (v : A) (k : ℕ) → (k ≡ n → ⊥) → stored g n v k ≡ g k
stored_other g n v k e = sym (if_ne v e refl)

-- a row of w places, each with many numbers: place i and i + w are one
abbrev pub cell : {A : Type 0} → ℕ → (ℕ → ℕ → A) → ℕ → ℕ → A → ℕ → ℕ → A
cell w g b i v c j = choose (eqb c b) (choose (eqb (j % w) (i % w)) v (g c j)) (g c j)

module _ {A : Type 0} (w : ℕ) (g : ℕ → ℕ → A) (b i : ℕ) (v : A) (c j : ℕ) where
  cell_by : (x : A) → (c ≡ b → j % w ≡ i % w → x ≡ v) → ((c ≡ b → j % w ≡ i % w → ⊥) → x ≡ g c j) → x ≡ cell w g b i v c j
  cell_by x f k = chosen c b (λ p. chosen (j % w) (i % w) (f p) (λ q. k (λ _ r. q r))) (λ p. k (λ r _. p r))

  pub cell_at : c ≡ b → j % w ≡ i % w → cell w g b i v c j ≡ v
  cell_at p q = sym (if_eq (g c j) p (if_eq (g c j) q refl))

  pub cell_other : (c ≡ b → j % w ≡ i % w → ⊥) → cell w g b i v c j ≡ g c j
  cell_other d = sym (cell_by (g c j) (λ p q. absurd (d p q)) (λ _. refl))

unfoldable pub new_frame : FrameEdit → (ℕ → Frame) → ℕ → Frame
new_frame fe g f = elim fe [ None ↦ g f | Some (n, v) ↦ stored g n.0 v f ]

unfoldable pub new_domain : DomainEdit → (ℕ → Domain) → ℕ → Domain
new_domain de g r = elim de [ None ↦ g r | Some (n, v) ↦ stored g n v r ]

unfoldable pub new_page : PageEdit → (ℕ → ℕ → ℕ) → ℕ → ℕ → ℕ
new_page pe g r i = elim pe [ None ↦ g r i | Some (n, k, v) ↦ cell control_pages g n k v.0 r i ]

unfoldable pub new_entry : EntryEdit → (ℕ → ℕ → Entry) → ℕ → ℕ → Entry
new_entry ee g b i = elim ee [ None ↦ g b i | Some (s, v) ↦ cell table_entries g s.block s.index v b i ]

unfoldable pub new_use : StockEdit → (ℕ → Bool) → ℕ → Bool
new_use se g b = elim se [
  | StockEdit.Keep ↦ g b
  | StockEdit.Table n ↦ stored g n true b
  | StockEdit.Record k n r ↦ stored g k true b
  | StockEdit.Give n ↦ stored
      g n false b
]

-- what a taken record or block reads: zeros
unfoldable pub wiped_domain : StockEdit → (ℕ → Domain) → ℕ → Domain
wiped_domain se g r = elim se [
  | StockEdit.Keep ↦ g r
  | StockEdit.Table n ↦ g r
  | StockEdit.Record bit n k ↦ stored g k
      (domain_from 0) r
  | StockEdit.Give n ↦ g r
]

unfoldable pub wiped_page : StockEdit → (ℕ → ℕ → ℕ) → ℕ → ℕ → ℕ
wiped_page se g r i = elim se [
  | StockEdit.Keep ↦ g r i
  | StockEdit.Table n ↦ g r i
  | StockEdit.Record bit n k ↦ choose (eqb r k) 0
      (g r i)
  | StockEdit.Give n ↦ g r i
]

abbrev taken : ℕ → (ℕ → ℕ → Entry) → ℕ → ℕ → Entry
taken n g b i = choose (eqb b n) (entry_from 0) (g b i)

unfoldable pub wiped_entry : StockEdit → (ℕ → ℕ → Entry) → ℕ → ℕ → Entry
wiped_entry se g b i = elim se [
  | StockEdit.Keep ↦ g b i
  | StockEdit.Table n ↦ taken n g b i
  | StockEdit.Record bit n r ↦ taken n g b i
  | StockEdit.Give n ↦ g b i
]

-- the view after an edit
pub record After (s s' : View) (e : Edit) : Type 0 where
  pub frames : (f : ℕ) → s'.frame f ≡ new_frame e.frame s.frame f
  pub domains : (r : ℕ) → s'.domain r ≡ new_domain e.domain (wiped_domain e.stock s.domain) r
  pub controls : (r i : ℕ) → s'.control r i ≡ new_page e.page (wiped_page e.stock s.control) r i
  pub entries : (b i : ℕ) → s'.entry b i ≡ new_entry e.entry (wiped_entry e.stock s.entry) b i
  pub uses : (b : ℕ) → s'.used b ≡ new_use e.stock s.used b

-- ---- an edit inside the tables, of numbers in range

pub data FrameIn (t : Tables) : FrameEdit → Type 0 where
  frame_kept : FrameIn t None
  frame_set : {n : Pfn} {v : Frame} → n.0 < length t.frames → frame_good (sizes_in t) v ≡ true → FrameIn t (Some (n, v))

pub data DomainIn (t : Tables) : DomainEdit → Type 0 where
  domain_kept : DomainIn t None
  domain_set : {r : ℕ} {v : Domain} → r < (sizes_in t).records → DomainGood (length t.frames) v → DomainIn t (Some (r, v))

pub data PageIn (t : Tables) : PageEdit → Type 0 where
  page_kept : PageIn t None
  page_set : {r i : ℕ} {n : Pfn} → r < (sizes_in t).records → PageIn t (Some (r, i, n))

pub data EntryIn (t : Tables) : EntryEdit → Type 0 where
  entry_kept : EntryIn t None
  entry_set : {b i : ℕ} {v : Entry} → IsBlock t b → entry_good (length t.frames) v ≡ true → EntryIn t (to_entry b i v)

pub data StockIn (t : Tables) : StockEdit → Type 0 where
  stock_kept : StockIn t (StockEdit.Keep)
  stock_table : {b : ℕ} → IsBlock t b → StockIn t (StockEdit.Table b)
  stock_record : {b r : ℕ} → IsBlock t b → r < (sizes_in t).records → StockIn t (StockEdit.Record b b r)
  stock_given : {b : ℕ} → IsBlock t b → StockIn t (StockEdit.Give b)

pub record Within (t : Tables) (e : Edit) : Type 0 where
  pub sized : Sized t
  pub frames : FrameIn t e.frame
  pub domains : DomainIn t e.domain
  pub pages : PageIn t e.page
  pub stocks : StockIn t e.stock
  pub entries : EntryIn t e.entry

-- ---- lengths stay

pub record SameLengths (t t' : Tables) : Type 0 where
  pub frames : length t'.frames ≡ length t.frames
  pub domains : length t'.domains ≡ length t.domains
  pub stocks : length t'.stock ≡ length t.stock
  pub entries : length t'.entries ≡ length t.entries

-- a list is as long after a part as before it
abbrev Stays : (List ℕ → List ℕ) → Type 0
Stays f = (l : List ℕ) → length (f l) ≡ length l

pub same_lengths : (e : Edit) (t : Tables) → SameLengths t (applied e t)
unfolding applied after_frame after_page after_domain after_entry after_use after_record after_block set_page set_domain
same_lengths e t = record {
  frames = elim e.frame as (λ x. length (after_frame x t.frames) ≡ length t.frames) [ None ↦ refl | Some (n, v) ↦ frame_length _ n v ];
  domains =
      elim e.page as (λ x. Stays (after_page x)) [ None ↦ λ l. refl | Some (r, i, v) ↦ λ l. word_length l r _ v.0 ] _
      ∙ elim e.domain as (λ x. Stays (after_domain x)) [ None ↦ λ l. refl | Some (r, v) ↦ λ l. word_length l r 0 _ ] _
      ∙ elim e.stock as (λ x. length (after_record x t.domains) ≡ length t.domains)
      [ StockEdit.Keep ↦ refl | StockEdit.Table b ↦ refl | StockEdit.Record bit b r ↦ wiped_length _ _ r | StockEdit.Give b ↦ refl ];
  stocks = elim e.stock as (λ x. length (after_use x t.stock) ≡ length t.stock) [
    | StockEdit.Keep ↦ refl
    | StockEdit.Table b ↦ use_length _ b true
    | StockEdit.Record bit b r ↦ use_length _ bit true
    | StockEdit.Give b ↦ use_length _ b
        false
  ];
  entries =
      elim e.entry as (λ x. Stays (after_entry x)) [ None ↦ λ l. refl | Some (s, v) ↦ λ l. entry_length l s.block s.index v ] _
      ∙ elim e.stock as (λ x. length (after_block x t.entries) ≡ length t.entries)
      [ StockEdit.Keep ↦ refl | StockEdit.Table b ↦ wiped_length _ _ b | StockEdit.Record bit b r ↦ wiped_length _ _ b | StockEdit.Give b ↦ refl ];
}

-- ---- the laws: a part's own, where what stood there before it is known

-- a wiped row says what zeros say
wiped_row : {A : Type 0} (say : ℕ → A) (w : ℕ) (l : List ℕ) (b c i : ℕ) → b < length l / w → i < w
    → say (get_or (wiped_at w l b) (c * w + i) 0) ≡ choose (eqb c b) (say 0) (say (get_or l (c * w + i) 0))
wiped_row say w l b c i h k = chosen c b (λ e. rw e (ap say (wiped_in w l b h i k))) (λ e. ap say (wiped_other w l b c i e k))

-- what the stock's part leaves: its bits, and a taken record and a taken block wiped
record StockAfter (t : Tables) (se : StockEdit) : Type 0 where
  uses : (b : ℕ) → in_use (after_use se t.stock) b ≡ new_use se (view t).used b
  domains : (r : ℕ) → domain_at (after_record se t.domains) r ≡ wiped_domain se (view t).domain r
  pages : (r i : ℕ) → (page_at (after_record se t.domains) r i).0 ≡ wiped_page se (view t).control r i
  entries : (b i : ℕ) → entry_at (after_block se t.entries) b i ≡ wiped_entry se (view t).entry b i

module _ (t : Tables) (z : Sized t) where
  used_after_fact : (n : ℕ) (on : Bool) → IsBlock t n → (b : ℕ) → in_use (set_use t.stock n on) b ≡ stored (view t).used n on b
  used_after_fact n on h b = chosen b n (λ e. rw e (use_same t.stock n on (omega (arith, z.bits, z.blocks)))) (use_other t.stock n on b)

  block_after : (n : ℕ) → IsBlock t n → (b i : ℕ) → entry_at (wiped_at table_entries t.entries n) b i ≡ taken n (view t).entry b i
  unfolding entry_at
  block_after n h b i = wiped_row entry_from table_entries t.entries n b (i % table_entries) (omega (arith, z.blocks)) (omega arith)

  stock_after : {se : StockEdit} → StockIn t se → StockAfter t se
  unfolding after_use after_record after_block new_use wiped_domain wiped_page wiped_entry domain_at page_at record_word
  stock_after stock_kept = record { uses = λ b. refl; domains = λ r. refl; pages = λ r i. refl; entries = λ b i. refl }
  stock_after (stock_table {b} h) = record { uses = used_after_fact b true h; domains = λ r. refl; pages = λ r i. refl; entries = block_after b h }
  stock_after (stock_record {b} {r = k} h m) = record {
    uses = used_after_fact b true h;
    domains = λ r. wiped_row domain_from record_words t.domains k r 0 m (omega arith);
    pages = λ r i. wiped_row (λ x. x) record_words t.domains k r ((1 + i % control_pages) % record_words) m (omega arith);
    entries = block_after b h;
  }
  stock_after (stock_given {b} h) = record { uses = used_after_fact b false h; domains = λ r. refl; pages = λ r i. refl; entries = λ b i. refl }

  frames_after : {fe : FrameEdit} → FrameIn t fe → (f : ℕ) → frame_at (after_frame fe t.frames) (pfn f) ≡ new_frame fe (view t).frame f
  unfolding after_frame new_frame
  frames_after frame_kept f = refl
  frames_after (frame_set {n} {v} h g) f =
      chosen f n.0 (λ e. rw e (frame_same t.frames n v h (frame_fits z v g))) (frame_other t.frames n v (pfn f))

  module _ (ds : List ℕ) (same : length ds ≡ length t.domains) where
    domains_after : (g : ℕ → Domain) {de : DomainEdit} → DomainIn t de → (r : ℕ) → domain_at ds r ≡ g r → domain_at (after_domain de ds) r ≡ new_domain de g r
    unfolding after_domain new_domain
    domains_after g domain_kept r was = was
    domains_after g (domain_set {r = k} {v} h d) r was =
        chosen r k (λ e. rw e (domain_same ds k v (omega arith) (domain_fits z v d))) (λ e. domain_other ds k v r e ∙ was)

    pages_after : (g : ℕ → ℕ → ℕ) {pe : PageEdit} → PageIn t pe → (r i : ℕ) → (page_at ds r i).0 ≡ g r i → (page_at (after_page pe ds) r i).0 ≡ new_page pe g r i
    unfolding after_page new_page page_at
    pages_after g page_kept r i was = was
    pages_after g (page_set {r = k} {i = j} {n} h) r i was = cell_by control_pages g k j n.0 r i _
        (λ p q. rw (p, q) (ap (λ (x : Pfn). x.0) (page_same ds k j n (omega arith)))) (λ d. ap (λ (x : Pfn). x.0) (page_other ds k j n r i d) ∙ was)

  entries_after : (es : List ℕ) → length es ≡ length t.entries → (g : ℕ → ℕ → Entry) {ee : EntryEdit} → EntryIn t ee → (b i : ℕ)
      → entry_at es b i ≡ g b i → entry_at (after_entry ee es) b i ≡ new_entry ee g b i
  unfolding after_entry new_entry entry_at
  entries_after es same g entry_kept b i was = was
  entries_after es same g (entry_set {b = c} {i = j} {v} h w) b i was = cell_by table_entries g c j v b i _
      (λ p q. rw (p, q) (entry_same es c j v (omega (arith, z.blocks)) (entry_fits z v w))) (λ d. entry_other es c j v b i d ∙ was)

pub after : (t : Tables) (e : Edit) → Within t e → After (view t) (view (applied e t)) e
unfolding applied after_page after_domain after_entry
after t e w =
    let z = w.sized in
    let s = stock_after t z w.stocks in
    let stocks = same_lengths (edit None None None e.stock None) t in
    let records = same_lengths (edit None None e.domain e.stock None) t in
    record {
      frames = frames_after t z w.frames;
      domains = λ r.
          elim e.page as (λ x. (l : List ℕ) → domain_at (after_page x l) r ≡ domain_at l r)
          [ None ↦ λ l. refl | Some (k, i, n) ↦ λ l. domain_of_page l k i n r ] _
          ∙ domains_after t z _ stocks.domains _ w.domains r (s.domains r);
      controls = λ r i. pages_after t z _ records.domains _ w.pages r i
          (elim e.domain as (λ x. (l : List ℕ) → (page_at (after_domain x l) r i).0 ≡ (page_at l r i).0)
          [ None ↦ λ l. refl | Some (k, v) ↦ λ l. ap (λ (x : Pfn). x.0) (page_of_domain l k v r i) ] _ ∙ s.pages r i);
      entries = λ b i. entries_after t z _ stocks.entries _ w.entries b i (s.entries b i);
      uses = s.uses;
    }
