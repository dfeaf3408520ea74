-- An edit of one frame, one record, the stock and one entry: what it leaves of the view, once for every call. (A new kind of edit is a
-- constructor more here.)
use Rattle.std.specs.Prelude.{Some, None}
use Rattle.base_rules.specs.Basics.{◌≡◌, Bool, true, false, ◌⊎◌, ℕ, ◌+◌, ◌<◌, eqb, choose}
use Rattle.base_rules.proofs.Facts.{refl, sym, ap, ◌∙◌, false≢true, true≢false, inl, inr, arith, ne_eqb, choose_both, by_eq}
use Rattle.base_units.specs.{Limits.control_pages, Limits.table_entries, declared.address.Pfn.Pfn}
use Rattle.book_ledger.specs.Codes.{NDA, TDR, EPT, TEARDOWN}
use Rattle.book_ledger.specs.declared.words.{Frame.Frame, Domain.Domain, Entry.Entry}
use Rattle.call_plan.proofs.Parts.{edit}
use Rattle.call_plan.specs.declared.edit.{StockEdit.StockEdit, Edit.Edit}
use Rattle.fact_keeps.specs.Views.{View, kind, number, listed, frame}
use Rattle.fact_keeps.proofs.Stores.{stored, stored_at, stored_same, stored_other, cell_other, new_frame, new_domain, new_page, new_entry, new_use, wiped_domain}
use Rattle.fact_keeps.proofs.Stores.{wiped_page, wiped_entry, After}
use Rattle.fact_ownership.specs.{Owned.Extent, Owned.Keyed, Owned.Block, Reached.Lists}
use Rattle.fact_ownership.proofs.{Domain.SameFrame, Domain.same_frame, Domain.same_entry, Cases.On, Cases.Step, Cases.Counted}
use Rattle.fact_ownership.specs.Always.{Numbered, a_record, a_table, block_of, Holds, holds}
use Rattle.fact_ownership.proofs.Sound.{Sound, Spare, Bare, not_bare, not_spare, unused_spare}
use Rattle.fact_ownership.proofs.Shift.{Spot, same_spot, own_spot, spare_spot, Numbering, as_before, afresh}
use Rattle.call_plan.specs.Edits.{FrameEdit, PageEdit, DomainEdit, EntryEdit, to_entry}

-- ---- the parts: frame F becomes fr, record r becomes v, and the stock takes a block or gets F's back

pub data FrameAt (s : View) (F : ℕ) : FrameEdit → Frame → Type 0 where
  frame_stays : FrameAt s F None (s.frame F)
  frame_becomes : {v : Frame} → FrameAt s F (Some (frame F, v)) v

pub data PageAt (r : ℕ) : PageEdit → Type 0 where
  page_stays : PageAt r None
  page_becomes : {i : ℕ} {n : Pfn} → PageAt r (Some (r, i, n))

pub data RecordAt (s : View) (r : ℕ) : DomainEdit → Domain → Type 0 where
  record_stays : (d : ℕ) → kind s d ≡ TDR → number s d ≡ r → RecordAt s r None (s.domain r)
  record_becomes : {v : Domain} → RecordAt s r (Some (r, v)) v

-- F, which becomes fr: it has and gets neither record nor table, or keeps its own; it takes one that wasn't in use; or it gives its own
pub data StockAt (z : Extent) (s : View) (F r : ℕ) (fr : Frame) : StockEdit → Type 0 where
  stock_bare : Bare (kind s F) → Bare fr.kind → StockAt z s F r fr (StockEdit.Keep)
  stock_stays : fr.kind ≡ kind s F → fr.number ≡ number s F → StockAt z s F r fr (StockEdit.Keep)
  table_taken_fact : kind s F ≡ NDA → fr.kind ≡ EPT → fr.number < z.tables → s.used fr.number ≡ false → StockAt z s F r fr (StockEdit.Table fr.number)
  record_taken_fact : kind s F ≡ NDA → fr.kind ≡ TDR → fr.number ≡ r → s.used (z.tables + r) ≡ false
      → StockAt z s F r fr (StockEdit.Record (z.tables + r) (z.tables + r) r)
  block_given : {k : ℕ} (nb : Numbered k) → kind s F ≡ k → Bare fr.kind → StockAt z s F r fr (StockEdit.Give (block_of z nb (number s F)))

-- an entry of d's tree changes, or none
pub data EntryAt (z : Extent) (s : View) (d : ℕ) : EntryEdit → Type 0 where
  entry_stays : EntryAt z s d None
  entry_becomes : {b i : ℕ} {w : Entry} → kind s d ≡ TDR → Block z s d b → EntryAt z s d (to_entry b i w)

module _ (s : View) (F : ℕ) where
  frame_new : {fe : FrameEdit} {fr : Frame} → FrameAt s F fe fr → new_frame fe s.frame F ≡ fr
  unfolding new_frame
  frame_new frame_stays = refl
  frame_new (frame_becomes {v}) = stored_same s.frame F v

  frame_other : {fe : FrameEdit} {fr : Frame} → FrameAt s F fe fr → (f : ℕ) → (f ≡ F → ⊥) → new_frame fe s.frame f ≡ s.frame f
  unfolding new_frame
  frame_other frame_stays f ne = refl
  frame_other (frame_becomes {v}) f ne = stored_other s.frame F v f ne

still_used : (g : ℕ → Bool) (n b : ℕ) → g b ≡ true → stored g n true b ≡ true
still_used g n b u = choose_both (λ (x : Bool). x ≡ true) (eqb b n) true (g b) (λ _. refl) (λ _. u)

-- two frames share no block
blocks_apart : {z : Extent} {s : View} {l : Lists} → Sound z s l → {k k' : ℕ} (nb : Numbered k) (nb' : Numbered k') (f g : ℕ)
    → kind s f ≡ k → kind s g ≡ k' → (f ≡ g → ⊥) → block_of z nb (number s f) ≡ block_of z nb' (number s g) → ⊥
blocks_apart ok a_record a_record f g kf kg ne q = ne (ok.unique TDR f g a_record kf kg (omega arith))
blocks_apart ok a_record a_table f g kf kg ne q = omega (arith, ok.tables g kg)
blocks_apart ok a_table a_record f g kf kg ne q = omega (arith, ok.tables f kf)
blocks_apart ok a_table a_table f g kf kg ne q = ne (ok.unique EPT f g a_table kf kg q)

module _ {z : Extent} {s : View} {F r : ℕ} {fr : Frame} where
  -- no record is wiped but a new one
  wiped_at_fact : {se : StockEdit} → StockAt z s F r fr se → (k : ℕ) → (s.used (z.tables + r) ≡ false → k ≡ r → ⊥)
      → (wiped_domain se s.domain k ≡ s.domain k) × ((i : ℕ) → wiped_page se s.control k i ≡ s.control k i)
  unfolding wiped_domain wiped_page choose
  wiped_at_fact (stock_bare _ _) k ne = (refl, λ i. refl)
  wiped_at_fact (stock_stays _ _) k ne = (refl, λ i. refl)
  wiped_at_fact (table_taken_fact _ _ _ _) k ne = (refl, λ i. refl)
  wiped_at_fact (record_taken_fact _ _ _ u) k ne = (stored_other s.domain r _ k (ne u), λ i. rw (ne_eqb k r (ne u)) refl)
  wiped_at_fact (block_given _ _ _) k ne = (refl, λ i. refl)

  record_other : {se : StockEdit} {de : DomainEdit} {v : Domain} → StockAt z s F r fr se → RecordAt s r de v → (k : ℕ) → (k ≡ r → ⊥)
      → new_domain de (wiped_domain se s.domain) k ≡ s.domain k
  unfolding new_domain
  record_other sa (record_stays _ _ _) k ne = (wiped_at_fact sa k (λ _. ne)).0
  record_other {se} sa (record_becomes {v}) k ne = stored_other (wiped_domain se s.domain) r v k ne ∙ (wiped_at_fact sa k (λ _. ne)).0

  page_other : {pe : PageEdit} {se : StockEdit} → PageAt r pe → StockAt z s F r fr se → (k : ℕ) → (k ≡ r → ⊥) → (i : ℕ)
      → new_page pe (wiped_page se s.control) k i ≡ s.control k i
  unfolding new_page
  page_other page_stays sa k ne i = (wiped_at_fact sa k (λ _. ne)).1 i
  page_other {se = se} (page_becomes {i = j} {n}) sa k ne i =
      cell_other control_pages (wiped_page se s.control) r j n.0 k i (λ q _. ne q) ∙ (wiped_at_fact sa k (λ _. ne)).1 i

  module _ {l : Lists} (ok : Sound z s l) where
    -- nor is that of a TDR
    kept_record : {se : StockEdit} → StockAt z s F r fr se → (e : ℕ) → kind s e ≡ TDR
        → (wiped_domain se s.domain (number s e) ≡ s.domain (number s e)) × ((i : ℕ) → wiped_page se s.control (number s e) i ≡ s.control (number s e) i)
    kept_record sa e k = wiped_at_fact sa (number s e) (λ u q. (unused_spare ok _ u).root e k (omega arith))

    record_new : {se : StockEdit} {de : DomainEdit} {v : Domain} → StockAt z s F r fr se → RecordAt s r de v → new_domain de (wiped_domain se s.domain) r ≡ v
    unfolding new_domain
    record_new sa (record_stays d k q) = rw q at (kept_record sa d k).0
    record_new {se} sa (record_becomes {v}) = stored_same (wiped_domain se s.domain) r v

    -- a block that is wiped was nobody's
    wiped_or : {se : StockEdit} → StockAt z s F r fr se → (c : ℕ) → Spare z s c ⊎ ((j : ℕ) → wiped_entry se s.entry c j ≡ s.entry c j)
    unfolding wiped_entry choose
    wiped_or (stock_bare _ _) c = inr (λ j. refl)
    wiped_or (stock_stays _ _) c = inr (λ j. refl)
    wiped_or (table_taken_fact _ _ _ u) c = by_eq c fr.number (λ e. inl (rw e (unused_spare ok _ u))) (λ e. inr (λ j. rw (ne_eqb c fr.number e) refl))
    wiped_or (record_taken_fact _ _ _ u) c = by_eq c (z.tables + r) (λ e. inl (rw e (unused_spare ok _ u))) (λ e. inr (λ j. rw (ne_eqb c _ e) refl))
    wiped_or (block_given _ _ _) c = inr (λ j. refl)

    others_used : {se : StockEdit} → StockAt z s F r fr se → (k f : ℕ) (nb : Numbered k) → kind s f ≡ k → (f ≡ F → ⊥)
        → new_use se s.used (block_of z nb (number s f)) ≡ true
    unfolding new_use
    others_used (stock_bare _ _) k f nb kf ne = ok.used k f nb kf
    others_used (stock_stays _ _) k f nb kf ne = ok.used k f nb kf
    others_used (table_taken_fact _ _ _ _) k f nb kf ne = still_used s.used fr.number _ (ok.used k f nb kf)
    others_used (record_taken_fact _ _ _ _) k f nb kf ne = still_used s.used (z.tables + r) _ (ok.used k f nb kf)
    others_used (block_given nb' e _) k f nb kf ne = stored_other s.used _ false _ (blocks_apart ok nb nb' f F kf e ne) ∙ ok.used k f nb kf

-- ---- what is in use is a frame's, and whose record or table is whose

module _ {z : Extent} {s : View} {l : Lists} (ok : Sound z s l) {s' : View} {F : ℕ} {fr : Frame} (now : s'.frame F ≡ fr)
    (others : (f : ℕ) → (f ≡ F → ⊥) → SameFrame s s' f) where
  now_kind : kind s' F ≡ fr.kind
  now_kind = ap (λ (x : Frame). x.kind) now

  now_number : number s' F ≡ fr.number
  now_number = ap (λ (x : Frame). x.number) now

  F_holds : {k b : ℕ} (nb : Numbered k) → fr.kind ≡ k → block_of z nb fr.number ≡ b → Holds z s' b
  F_holds nb kf q = holds _ F nb (now_kind ∙ kf) (rw now_number q)

  -- a frame but F holds what it held
  other_holds : {b : ℕ} → Holds z s b → ((k : ℕ) (nb : Numbered k) → kind s F ≡ k → block_of z nb (number s F) ≡ b → Holds z s' b) → Holds z s' b
  other_holds (holds k f nb kf q) own = by_eq f F
      (λ e. own k nb (ap (kind s) (sym e) ∙ kf) (ap (λ (x : ℕ). block_of z nb (number s x)) (sym e) ∙ q))
      (λ e. let y = others f e in holds k f nb (y.kind ∙ kf) (rw y.number q))

  kept_held : ((b : ℕ) → s.used b ≡ true → Holds z s b) → kind s F ≡ NDA → (b : ℕ) → s.used b ≡ true → Holds z s' b
  kept_held ti free b u = other_holds (ti b u) (λ k nb kF q. absurd (not_bare nb kF (omega arith)))

  -- a block that is stored as in use is the new one, or was in use
  was_or_new : (b n : ℕ) → stored s.used n true b ≡ true → (n ≡ b → Holds z s' b) → (s.used b ≡ true → Holds z s' b) → Holds z s' b
  was_or_new b n u new was = by_eq b n (λ e. new (sym e)) (λ e. was (sym (stored_other s.used n true b e) ∙ u))

  same_block : {j k : ℕ} (x : Numbered j) (y : Numbered k) → j ≡ k → block_of z x (number s F) ≡ block_of z y (number s F)
  same_block a_record a_record _ = refl
  same_block a_table a_table _ = refl
  same_block a_record a_table q = absurd (omega arith)
  same_block a_table a_record q = absurd (omega arith)

  taken_now : {r : ℕ} {se : StockEdit} → ((b : ℕ) → s.used b ≡ true → Holds z s b) → StockAt z s F r fr se
      → (b : ℕ) → new_use se s.used b ≡ true → Holds z s' b
  unfolding new_use
  taken_now ti (stock_bare bare _) b u = other_holds (ti b u) (λ k nb kF q. absurd (not_bare nb kF bare))
  taken_now ti (stock_stays e n) b u = other_holds (ti b u) (λ k nb kF q. F_holds nb (e ∙ kF) (rw n q))
  taken_now ti (table_taken_fact free kf _ _) b u = was_or_new b fr.number u (F_holds a_table kf) (kept_held ti free b)
  taken_now {r} ti (record_taken_fact free kf n _) b u = was_or_new b (z.tables + r) u (λ q. F_holds a_record kf (rw n q)) (kept_held ti free b)
  taken_now ti (block_given nb kF _) b u = by_eq b (block_of z nb (number s F))
      (λ e. absurd (false≢true (sym (stored_at s.used _ false b e) ∙ u)))
      (λ e. other_holds (ti b (sym (stored_other s.used _ false b e) ∙ u)) (λ k nb' kF' q. absurd (e (sym q ∙ same_block nb' nb (sym kF' ∙ kF)))))

  -- F has a number that nobody had
  new_number : (k : ℕ) (nb : Numbered k) → s'.used (block_of z nb fr.number) ≡ true → s.used (block_of z nb fr.number) ≡ false
      → (k ≡ EPT → fr.number < z.tables) → Numbering z s s' F nb
  new_number k nb u un low = afresh (rw now_number u) (λ g kg q. by_eq g F (λ e. e) (λ e. let y = others g e in
      absurd (true≢false (sym (ok.used k g nb (sym y.kind ∙ kg)) ∙ ap (λ (n : ℕ). s.used (block_of z nb n)) (sym y.number ∙ q ∙ now_number) ∙ un))))
      (λ e. rw now_number (low e))

  F_number : {r : ℕ} {se : StockEdit} → StockAt z s F r fr se → ((b : ℕ) → s'.used b ≡ new_use se s.used b)
      → (k : ℕ) (nb : Numbered k) → kind s' F ≡ k → Numbering z s s' F nb
  unfolding new_use
  F_number (stock_bare _ b) a k nb kf = absurd (not_bare nb (sym now_kind ∙ kf) b)
  F_number (stock_stays e n) a k nb kf = let ks = sym e ∙ sym now_kind ∙ kf in as_before ks (now_number ∙ n) (a _ ∙ ok.used k F nb ks)
  F_number (table_taken_fact _ kE low un) a k a_record kf = absurd (omega (arith, now_kind))
  F_number (table_taken_fact _ kE low un) a k a_table kf = new_number EPT a_table (a _ ∙ stored_same s.used fr.number true) un (λ _. low)
  F_number {r} (record_taken_fact _ kT n un) a k a_record kf =
      new_number TDR a_record (rw n (a _ ∙ stored_same s.used (z.tables + r) true)) (rw n un) (λ e. absurd (omega arith))
  F_number (record_taken_fact _ kT n un) a k a_table kf = absurd (omega (arith, now_kind))
  F_number (block_given _ _ b) a k nb kf = absurd (not_bare nb (sym now_kind ∙ kf) b)

-- ---- all of them

spot_now : {z : Extent} {s : View} (s' : View) {d : ℕ} {ee : EntryEdit} (g : ℕ → ℕ → Entry) → EntryAt z s d ee → (c j : ℕ)
    → Spare z s c ⊎ ((j : ℕ) → g c j ≡ s.entry c j) → s'.entry c j ≡ new_entry ee g c j → Spot z s s' d c j
unfolding new_entry
spot_now {s = s} s' g ea c j (inl sp) e = spare_spot sp
spot_now {s = s} s' g entry_stays c j (inr q) e = same_spot (same_entry s s' c j (e ∙ q j))
spot_now {s = s} s' g (entry_becomes {b} {i} {w} kd bl) c j (inr q) e =
    by_eq c b (λ x. own_spot kd (rw x bl)) (λ x. same_spot (same_entry s s' c j (e ∙ cell_other table_entries g b i w c j (λ p _. x p) ∙ q j)))

-- what an edit e on domain d, frame F and record r leaves in s'
pub record Stepped (z : Extent) (s s' : View) (d F r : ℕ) (e : Edit) (fr : Frame) (v : Domain) : Type 0 where
  pub step : Step z s s' d F r
  pub after : After s s' e
  pub frame : s'.frame F ≡ fr
  pub own : s'.domain r ≡ v
  pub taken : ((b : ℕ) → s.used b ≡ true → Holds z s b) → (b : ℕ) → s'.used b ≡ true → Holds z s' b
  -- nothing of a domain that was there is wiped
  pub entries : kind s d ≡ TDR → (c j : ℕ) → Block z s d c → wiped_entry e.stock s.entry c j ≡ s.entry c j
  pub pages : kind s d ≡ TDR → (i : ℕ) → wiped_page e.stock s.control (number s d) i ≡ s.control (number s d) i

pub stepped : {z : Extent} {s s' : View} {l : Lists} {d F r : ℕ} {fe : FrameEdit} {pe : PageEdit} {de : DomainEdit} {se : StockEdit} {ee : EntryEdit}
    {fr : Frame} {v : Domain}
    → After s s' (edit fe pe de se ee) → Sound z s l → FrameAt s F fe fr → PageAt r pe → RecordAt s r de v → StockAt z s F r fr se → EntryAt z s d ee
    → Stepped z s s' d F r (edit fe pe de se ee) fr v
stepped {s = s} {s'} {d = d} {F} {r} {fr = fr} a ok fa pa ra sa ea = record {
  step = record {
    frames = others;
    others = λ k ne. record { domain = a.domains k ∙ record_other sa ra k ne; control = λ i. a.controls k i ∙ page_other pa sa k ne i };
    numbers = λ k f nb kf. by_eq f F (λ e. rw e (F_number ok now others sa a.uses k nb (rw e at kf)))
        (λ e. let q = others f e in let ks = sym q.kind ∙ kf in as_before ks q.number (a.uses _ ∙ others_used ok sa k f nb ks e));
    spots = λ c j h. spot_now s' _ ea c j (wiped_or ok sa c) (a.entries c j);
  };
  after = a;
  frame = now;
  own = a.domains r ∙ record_new ok sa ra;
  taken = λ ti b u. taken_now ok now others ti sa b (sym (a.uses b) ∙ u);
  entries = λ kd c j bl. elim (wiped_or ok sa c) [ inl sp ↦ absurd (not_spare kd sp bl) | inr q ↦ q j ];
  pages = λ kd. (kept_record ok sa d kd).1;
}
  where
    now : s'.frame F ≡ fr
    now = a.frames F ∙ frame_new s F fa

    others : (f : ℕ) → (f ≡ F → ⊥) → SameFrame s s' f
    others f ne = same_frame s s' f (a.frames f ∙ frame_other s F fa f ne)

-- an edit that leaves d's control pages
pub counted : {z : Extent} {s s' : View} {d F : ℕ} {fe : FrameEdit} {de : DomainEdit} {se : StockEdit} {ee : EntryEdit} {fr : Frame} {v : Domain}
    → Stepped z s s' d F (number s d) (edit fe None de se ee) fr v → kind s d ≡ TDR → v.listed ≡ listed s (number s d)
    → {n : ℕ} → v.children ≡ n → Counted s s' (number s d) n
unfolding new_page
counted {s = s} {d = d} p kd li ch = record { listed = cc; control = λ i. p.after.controls (number s d) i ∙ p.pages kd i; children = cc }

pub now_domain : {z : Extent} {s s' : View} {d F : ℕ} {e : Edit} {fr : Frame} {v : Domain} → Stepped z s s' d F (number s d) e fr v → SameFrame s s' d
    → s'.domain (number s' d) ≡ v
now_domain {s' = s'} p sd = ap s'.domain sd.number ∙ p.own

-- d holds its key before and after
pub keeps_key : {z : Extent} {s s' : View} {d F : ℕ} {e : Edit} {fr : Frame} {v : Domain} → Stepped z s s' d F (number s d) e fr v
    → SameFrame s s' d → Keyed s d → (v.life ≡ TEARDOWN → ⊥) → On z s s' d F
keeps_key {s' = s'} {d} p sd kd lf =
    let k : Keyed s' d = record { tdr = sd.kind ∙ kd.tdr; held = λ x. lf (sym (ap (λ (y : Domain). y.life) (now_domain p sd)) ∙ x) } in search
