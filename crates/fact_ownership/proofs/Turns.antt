-- Each edit that a plan makes is a shift of a domain's frames: once for each kind of edit, over the level, the entry's state and the stock.
-- That an edit does to the tables what it says, and leaves them in range, is proved in the crate below, on any tables.
use Rattle.std.specs.Prelude.{Some, None, Ok, Err}
use Rattle.base_rules.specs.Basics.{◌≡◌, false, List, ℕ, ◌+◌, ◌-◌, ◌<◌, ◌≤◌, choose}
use Rattle.base_rules.proofs.Facts.{refl, sym, ap, ◌∙◌, subst, arith, eq-eqb}
use Rattle.base_units.specs.{Limits.table_entries, Limits.control_pages, declared.address.Hpa.Hpa}
use Rattle.book_ledger.specs.{Codes.NDA, Codes.TDR, Codes.EPT, Codes.FREE, Codes.UNINITIALIZED, Codes.INITIALIZED, Codes.TEARDOWN, Tables.Tables}
use Rattle.book_ledger.specs.declared.words.{Frame.Frame, Domain.Domain, Entry.Entry}
use Rattle.call_plan.specs.{Changes.become, Edits.entry, Edits.freed, Edits.free_entry, Edits.new_tdr, Edits.new_tdcx, Edits.with_counts}
use Rattle.call_plan.proofs.Parts.{edit}
use Rattle.call_domains.specs.Domains.{fresh_domain}
use Rattle.call_plan.specs.declared.edit.{StockEdit.StockEdit, Edit.Edit, Deed.TheVariants.Do, Deed.TheVariants.Tell}
use Rattle.call_carry.specs.Carry.{applied}
use Rattle.fact_keeps.specs.Views.{View, kind, owner, number, listed, children, frame, view}
use Rattle.fact_keeps.proofs.Stores.{cell_at, cell_other, new_page, new_entry, wiped_page, wiped_entry, After}
use Rattle.fact_ownership.specs.Owned.{Found, shape_of, shape, points, finds, without, Keyed, Block, root, Belongs, root_block}
use Rattle.fact_ownership.specs.{Reached.extent, Reached.Lists, Always.a_record}
use Rattle.fact_ownership.proofs.{Domain.SameFrame, Domain.same_frame, Domain.SameEntry, Domain.same_entry, Domain.mine_belongs, Sums.by_pair}
use Rattle.fact_ownership.proofs.{Sound.path_block, Sound.not_spare, Sound.unused_spare, Shift.itself, Shift.its, Shift.Shift}
use Rattle.fact_ownership.proofs.{Tidy.Tidy, Tidy.Own, Tidy.tidied, Cases.retire_shift, Cases.Others, Stepped.now_domain, Stepped.keeps_key}
use Rattle.fact_ownership.proofs.Cases.{Fits, alters, Ends, lives, put_shift, take_shift, enlist_shift, quiet_shift, new_shift, reclaim_shift}
use Rattle.fact_ownership.proofs.Facts.{Mild, fits_state, free_shape}
use Rattle.fact_ownership.proofs.State.{State, record_of, looked, IsSpot, entry_own, count_some}
use Rattle.fact_ownership.proofs.Stepped.{FrameAt, frame_stays, frame_becomes, page_stays, page_becomes, record_stays, record_becomes, StockAt}
use Rattle.fact_ownership.proofs.Stepped.{stock_bare, stock_stays, record_taken_fact, block_given, entry_stays, entry_becomes, Stepped, stepped, counted}
use Rattle.call_plan.specs.Edits.{FrameEdit, PageEdit, DomainEdit, Plan, to_entry}
use Rattle.base_calls.specs.declared.{Refusal.Refusal, Reading.Reading}

-- an edit on domain d's own record
abbrev Edited : Tables → View → ℕ → ℕ → Edit → Frame → Domain → Type 0
Edited t s' d F e fr v = Stepped (extent t) (view t) s' d F (number (view t) d) e fr v

-- an edit is a shift, and leaves keys, stock and idle roots in order
pub record Does (t : Tables) (s' : View) (l l' : Lists) (d : ℕ) (gone come : List Found) : Type 0 where
  pub shift : Shift (extent t) (view t) s' l l' d gone come
  pub tidy : Tidy (extent t) s'

done : {base : Hpa} {t : Tables} {l l' : Lists} {s' : View} {d : ℕ} {gone come : List Found} → State base t l
    → Shift (extent t) (view t) s' l l' d gone come → Own (extent t) (view t) s' d → Does t s' l l' d gone come
done st sh o = record { shift = sh; tidy = tidied st.ok st.tidy sh o }

-- a plan on domain d, from the lists l to l': a mild refusal, a read, or an edit
pub data Turn (base : Hpa) (t : Tables) (l l' : Lists) (d : ℕ) : Plan → Type 0 where
  says : {r : Refusal} → Mild r → Turn base t l l' d (Err r)
  reads : {r : Reading} → l' ≡ l → Turn base t l l' d (Ok (Tell r))
  does : {e : Edit} {gone come : List Found} → (After (view t) (view (applied e t)) e → Does t (view (applied e t)) l l' d gone come)
      → Turn base t l l' d (Ok (Do e))

pub table_wiped : (g : ℕ → ℕ → Entry) (n j : ℕ) → (wiped_entry (StockEdit.Table n) g n j).state ≡ FREE
unfolding wiped_entry choose
table_wiped g n j = rw (eq-eqb n n refl) refl

doing : {base : Hpa} {t : Tables} {l l' : Lists} {d : ℕ} {e : Edit} {gone : List Found} {come : View → List Found}
    → ((s' : View) → After (view t) s' e → Does t s' l l' d gone (come s')) → Turn base t l l' d (Ok (Do e))
doing {t = t} {e = e} f = does (f (view (applied e t)))

-- the counts of d's record change, and nothing else of it
abbrev gained : Tables → ℕ → Domain
gained t d = with_counts (record_of t d) (record_of t d).listed ((record_of t d).children + 1)

abbrev lost : Tables → ℕ → Domain
lost t d = with_counts (record_of t d) (record_of t d).listed ((record_of t d).children - 1)

module _ {base : Hpa} {t : Tables} {l : Lists} (st : State base t l) where
  -- of a domain with its frame and its key as before: its root, where it isn't initialized, stays too
  own_kept : {s' : View} {d F : ℕ} {e : Edit} {fr : Frame} {v : Domain} → Edited t s' d F e fr v → SameFrame (view t) s' d → kind (view t) d ≡ TDR
      → v.key ≡ (record_of t d).key → (Keyed s' d → Keyed (view t) d)
      → (v.op ≡ UNINITIALIZED → ((record_of t d).op ≡ UNINITIALIZED) × ((b i : ℕ) → Block (extent t) (view t) d b → SameEntry (view t) s' b i))
      → Own (extent t) (view t) s' d
  own_kept {d = d} p sd kd ke was un =
      let now = now_domain p sd in
      record {
        key = λ k e kk ne q. ne (st.tidy.keys e d kk (was k) (sym q ∙ ap (λ (x : Domain). x.key) now ∙ ke));
        taken = p.taken st.tidy.taken;
        idle = λ _ u i h. let x = un (sym (ap (λ (y : Domain). y.op) now) ∙ u) in
            rw sd.number (ap (λ (y : Entry). y.state) (x.1 _ i (root refl)).entry ∙ st.tidy.idle d kd x.0 i h);
      }

  module _ {s' : View} {d F : ℕ} {fe : FrameEdit} {pe : PageEdit} {de : DomainEdit} {fr : Frame} {v : Domain} where
    -- those of a new root, of d's blocks where no entry is set, and where (b, i) is
    new_wiped : {r bit n k : ℕ} → Stepped (extent t) (view t) s' d F r (edit fe pe de (StockEdit.Record bit n k) None) fr v → (i : ℕ)
        → (s'.entry n i).state ≡ FREE
    unfolding new_entry wiped_entry choose
    new_wiped {n = n} p i = ap (λ (y : Entry). y.state) (p.after.entries n i) ∙ rw (eq-eqb n n refl) refl

    all_stay : {se : StockEdit} → Edited t s' d F (edit fe pe de se None) fr v → kind (view t) d ≡ TDR
        → (c j : ℕ) → Block (extent t) (view t) d c → SameEntry (view t) s' c j
    unfolding new_entry
    all_stay p kd c j bl = same_entry (view t) s' c j (p.after.entries c j ∙ p.entries kd c j bl)

    module _ {se : StockEdit} {b i : ℕ} {w : Entry} (p : Edited t s' d F (edit fe pe de se (to_entry b i w)) fr v) where
      entry_now : s'.entry b i ≡ w
      unfolding new_entry
      entry_now = p.after.entries b i ∙ cell_at table_entries (wiped_entry se (view t).entry) b i w b i refl refl

      entries_now : i < table_entries → (c j : ℕ) → j < table_entries → ((c ≡ b) × (j ≡ i) → ⊥) → s'.entry c j ≡ wiped_entry se (view t).entry c j
      unfolding new_entry
      entries_now ib c j h ne = p.after.entries c j ∙ cell_other table_entries (wiped_entry se (view t).entry) b i w c j (λ x y. ne (x, omega arith))

      others_stay : kind (view t) d ≡ TDR → i < table_entries → Others (extent t) (view t) s' d b i
      others_stay kd ib c j h bl ne = same_entry (view t) s' c j (entries_now ib c j h ne ∙ p.entries kd c j bl)

  -- ---- a domain's scalars alone

  pub become_turn : (d : ℕ) → Keyed (view t) d → (v : Domain) → v.listed ≡ (record_of t d).listed → v.children ≡ (record_of t d).children
      → v.key ≡ (record_of t d).key → (v.op ≡ UNINITIALIZED → (record_of t d).op ≡ UNINITIALIZED)
      → {l' : Lists} → Ends l d (finds (extent t) (view t) d) v.life l' → Turn base t l l' d (become (looked t d) v)
  become_turn d kd v li ch ke un e = doing (λ s' a.
      let p : Edited t s' d d _ ((view t).frame d) v = stepped a st.ok frame_stays page_stays record_becomes (stock_stays refl refl) entry_stays in
      let sd = same_frame (view t) s' d p.frame in
      let same = all_stay p kd.tdr in
      done st (quiet_shift st.ok p.step sd kd (alters (itself refl kd.tdr) sd.kind sd.owner sd.number) sd.number
      (λ b i h bl. let y = same b i bl in (y.shape, y.points))
      (counted p kd.tdr li ch) (rw (ap (λ (y : Domain). y.life) (now_domain p sd)) e))
      (own_kept p sd kd.tdr ke (λ _. kd) (λ u. (un u, same))))

  -- ---- an entry's state changes and its shape doesn't (block, unblock); its frame's epoch may

  module _ (d : ℕ) (kd : Keyed (view t) d) (live : INITIALIZED ≤ (record_of t d).op) (b i : ℕ) (sp : IsSpot t d b i) where
    own_block : Block (extent t) (view t) d b
    own_block = path_block st.ok kd b sp.path

    pub entry_turn : (((view t).entry b i).state ≡ FREE → ⊥) → (state : ℕ) → shape_of state ≡ shape (view t) b i
        → (fe : FrameEdit) (fr : Frame) → FrameAt (view t) (points (view t) b i) fe fr → fr.kind ≡ kind (view t) (points (view t) b i)
        → fr.owner.0 ≡ owner (view t) (points (view t) b i) → fr.number ≡ number (view t) (points (view t) b i)
        → Turn base t l l d (Ok (Do (edit fe None None (StockEdit.Keep) (to_entry b i (entry state (frame (points (view t) b i)))))))
    entry_turn was state alike fe fr fa kinds owners numbers = doing (λ s' a.
        let F : ℕ = points (view t) b i in
        let p : Edited t s' d F _ fr (record_of t d) =
        stepped a st.ok fa page_stays (record_stays d kd.tdr refl) (stock_stays kinds numbers) (entry_becomes kd.tdr own_block) in
        let mine = mine_belongs (entry_own st d b i kd sp was) in
        let sd = p.step.frames d (λ q. omega (arith, ap (kind (view t)) q, kd.tdr, mine.type)) in
        let n = ap (λ (y : Frame). y.number) p.frame ∙ numbers in
        let now = entry_now p in
        done st (quiet_shift st.ok p.step sd kd
        (alters (its mine) (cc) (cc) n) n
        (λ c j h bl. by_pair c b j i (λ r. rw (r.0, r.1) (ap (λ (y : Entry). shape_of y.state) now ∙ alike, ap (λ (y : Entry). y.frame.0) now))
        (λ ne. let y = others_stay p kd.tdr sp.place c j h bl ne in (y.shape, y.points)))
        (counted p kd.tdr refl refl) (lives (keeps_key p sd kd kd.held).keyed'.held))
        (own_kept p sd kd.tdr refl (λ _. kd) (λ u. absurd (omega arith))))

    -- ---- a free frame is entered in a FREE entry (septadd, pageadd, pageaug); an EPT's table is new, and wiped

    pub put_turn : ((view t).entry b i).state ≡ FREE → (F : ℕ) → kind (view t) F ≡ NDA → (fr : Frame) → fr.owner.0 ≡ d → (state : ℕ)
        → Fits (shape_of state) fr.kind
        → (se : StockEdit) → StockAt (extent t) (view t) F (number (view t) d) fr se
        → (fr.kind ≡ EPT → ((view t).used fr.number ≡ false) × ((j : ℕ) → (wiped_entry se (view t).entry fr.number j).state ≡ FREE))
        → Turn base t l l d (Ok (Do (edit (Some (frame F, fr)) None (Some (number (view t) d, gained t d)) se
        (to_entry b i (entry state (frame F))))))
    put_turn was F free fr owned state fits se sa new = doing (λ s' a.
        let p : Edited t s' d F _ fr (gained t d) = stepped a st.ok frame_becomes page_stays record_becomes sa (entry_becomes kd.tdr own_block) in
        let sd = p.step.frames d (λ q. omega (arith, ap (kind (view t)) q, kd.tdr)) in
        let now = entry_now p in
        let k = ap (λ (y : Frame). y.kind) p.frame in
        let n = ap (λ (y : Frame). y.number) p.frame in
        done st (put_shift st.ok (keeps_key p sd kd kd.held) b i sp.place sp.path (others_stay p kd.tdr sp.place)
        free (cc) (free_shape _ was) (rw (k, ap (λ (y : Entry). shape_of y.state) now) fits) (ap (λ (y : Entry). y.frame.0) now)
        (λ q j h. let y = new (sym k ∙ q) in let away = not_spare kd.tdr (unused_spare st.ok fr.number y.0) in
        rw n (free_shape _ (ap (λ (e : Entry). e.state) (entries_now p sp.place fr.number j h (λ r. away (rw r.0 own_block))) ∙ y.1 j)))
        (counted p kd.tdr refl refl))
        (own_kept p sd kd.tdr refl (λ _. kd) (λ u. absurd (omega arith))))

    -- ---- a domain loses a frame, with its entry (pageremove, septremove) or without it (reclaim)

    pub take_turn : (((view t).entry b i).state ≡ FREE → ⊥) → (se : StockEdit) → StockAt (extent t) (view t) (points (view t) b i) (number (view t) d) freed se
        → (kind (view t) (points (view t) b i) ≡ EPT → (j : ℕ) → j < table_entries → ((view t).entry (number (view t) (points (view t) b i)) j).state ≡ FREE)
        → Turn base t l l d (Ok (Do (edit (Some (frame (points (view t) b i), freed)) None (Some (number (view t) d, lost t d)) se
        (to_entry b i free_entry))))
    take_turn was se sa empty = doing (λ s' a.
        let F : ℕ = points (view t) b i in
        let p : Edited t s' d F _ freed (lost t d) = stepped a st.ok frame_becomes page_stays record_becomes sa (entry_becomes kd.tdr own_block) in
        let own = entry_own st d b i kd sp was in
        let mine = mine_belongs own in
        let sd = p.step.frames d (λ q. omega (arith, ap (kind (view t)) q, kd.tdr, mine.type)) in
        done st (take_shift st.ok b i (keeps_key p sd kd kd.held) sp.place sp.path (others_stay p kd.tdr sp.place)
        (subst (λ (n : ℕ). Fits (shape (view t) b i) n) (sym own.kind) (fits_state _ was)) (free_shape _ (ap (λ (y : Entry). y.state) (entry_now p)))
        (λ q j h. free_shape _ (empty q j h))
        mine (cc) (counted p kd.tdr refl refl) (omega (arith, count_some st d F mine kd.tdr)))
        (own_kept p sd kd.tdr refl (λ _. kd) (λ u. absurd (omega arith))))

  -- an entry that names a reclaimed frame stays as it is
  pub reclaim_turn : (d : ℕ) → kind (view t) d ≡ TDR → (record_of t d).life ≡ TEARDOWN → (F : ℕ) → Belongs (view t) d F → (se : StockEdit)
      → StockAt (extent t) (view t) F (number (view t) d) freed se
      → Turn base t l (λ x. without F (l x)) d (Ok (Do (edit (Some (frame F, freed)) None (Some (number (view t) d, lost t d)) se None)))
  reclaim_turn d kd dead F mine se sa = doing (λ s' a.
      let p : Edited t s' d F _ freed (lost t d) = stepped a st.ok frame_becomes page_stays record_becomes sa entry_stays in
      let sd = p.step.frames d (λ q. omega (arith, ap (kind (view t)) q, kd, mine.type)) in
      let over = ap (λ (y : Domain). y.life) p.own ∙ dead in
      done st (reclaim_shift st.ok p.step sd kd dead over mine (cc)
      (omega (arith, count_some st d F mine kd, ap (λ (y : Domain). y.children) p.own)))
      (own_kept p sd kd refl (λ k. absurd (k.held (ap (λ (y : Domain). y.life) (now_domain p sd) ∙ dead))) (λ u. (u, all_stay p kd))))

  -- ---- a free frame becomes a control page and is listed (addcx)

  pub enlist_turn : (d : ℕ) → Keyed (view t) d → (record_of t d).listed < control_pages → (F : ℕ) → kind (view t) F ≡ NDA
      → Turn base t l l d (Ok (Do (edit (Some (frame F, new_tdcx (frame d))) (Some (number (view t) d, (record_of t d).listed, frame F))
      (Some (number (view t) d, with_counts (record_of t d) ((record_of t d).listed + 1) ((record_of t d).children + 1))) (StockEdit.Keep) None)))
  unfolding new_page wiped_page
  enlist_turn d kd few F free = doing (λ s' a.
      let r : ℕ = number (view t) d in
      let n : ℕ = listed (view t) r in
      let v : Domain = with_counts (record_of t d) (n + 1) (children (view t) r + 1) in
      let p : Edited t s' d F _ (new_tdcx (frame d)) v = stepped a st.ok frame_becomes page_becomes record_becomes
      (stock_bare (omega arith) (omega arith)) entry_stays in
      let sd = p.step.frames d (λ q. omega (arith, ap (kind (view t)) q, kd.tdr)) in
      done st (enlist_shift st.ok (keeps_key p sd kd kd.held) free (cc)
      (λ b i _ bl. all_stay p kd.tdr b i bl) (ap (λ (y : Domain). y.listed) p.own ∙ omega arith)
      (λ i h. a.controls r i ∙ cell_other control_pages (view t).control r n F r i (λ _ q. omega arith))
      (a.controls r n ∙ cell_at control_pages (view t).control r n F r n refl refl)
      (ap (λ (y : Frame). y.owner.0) p.frame) (cc))
      (own_kept p sd kd.tdr refl (λ _. kd) (λ u. (u, all_stay p kd.tdr))))

  -- ---- create: a free frame becomes a TDR with record r, whose root's block wasn't in use

  pub new_turn : (F : ℕ) → kind (view t) F ≡ NDA → (key' r : ℕ) → (view t).used ((extent t).tables + r) ≡ false
      → ((e : ℕ) → Keyed (view t) e → (record_of t e).key ≡ key' → ⊥)
      → Turn base t l l F (Ok (Do (edit (Some (frame F, new_tdr r)) None (Some (r, fresh_domain key'))
      (StockEdit.Record ((extent t).tables + r) ((extent t).tables + r) r) None)))
  new_turn F free key' r unused sole = doing (λ s' a.
      let v : Domain = fresh_domain key' in
      let p : Stepped (extent t) (view t) s' F F r _ (new_tdr r) v = stepped a st.ok frame_becomes page_stays record_becomes
      (record_taken_fact free refl refl unused) entry_stays in
      let n = ap (λ (y : Frame). y.number) p.frame in
      done st (new_shift p.step free (ap (λ (y : Frame). y.kind) p.frame) n (unused_spare st.ok _ unused)
      (λ i _. free_shape _ (new_wiped p i)) (λ q. omega (arith, ap (λ (y : Domain). y.life) p.own)) (cc) (cc))
      (record {
        key = λ _ e ke _ q. sole e ke (sym (rw n at q) ∙ ap (λ (y : Domain). y.key) p.own);
        taken = p.taken st.tidy.taken;
        idle = λ _ _ i _. rw n (new_wiped p i);
      }))

  -- ---- reclaim of a TDR: its record is given back

  pub retire_turn : (d : ℕ) → kind (view t) d ≡ TDR → (record_of t d).children ≡ 0
      → Turn base t l (λ y. without d (l y)) d (Ok (Do (edit (Some (frame d, freed)) None None
      (StockEdit.Give (root_block (extent t) (view t) d)) None)))
  retire_turn d kd bare = doing (λ s' a.
      let p : Edited t s' d d _ freed (record_of t d) =
      stepped a st.ok frame_becomes page_stays (record_stays d kd refl) (block_given a_record kd (omega arith)) entry_stays in
      let free : kind s' d ≡ NDA = ap (λ (y : Frame). y.kind) p.frame in
      done st (retire_shift st.ok p.step kd bare free)
      (record { key = λ k. absurd (omega (arith, k.tdr)); taken = p.taken st.tidy.taken; idle = λ k. absurd (omega arith) }))
