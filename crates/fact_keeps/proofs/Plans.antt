-- Every call's plan on any tables that pass the range check: an answer, or an edit that keeps it. Each plan is followed down its checks to an edit.
use Rattle.std.specs.Prelude.{Some, None, Ok, Err}
use Rattle.base_rules.specs.Basics.{◌≡◌, Bool, true, ℕ, ◌-◌, ◌<◌, ◌≤◌, length, choose, given}
use Rattle.base_rules.proofs.Facts.{refl, ap, ◌∙◌, inr, arith, eqb-true, ltb-true, lt-ltb, le-leb, choose_both, ne_eqb}
use Rattle.base_units.specs.Limits.{key_least, key_most, control_pages, epoch_most}
use Rattle.base_units.specs.declared.address.{Hpa.Hpa, Gpa.Gpa, Pfn.Pfn}
use Rattle.book_stock.proofs.Lowest.{lowest_found}
use Rattle.book_ledger.specs.Codes.{ASSIGNED, CONFIGURED, BLOCKED_LIFE, TEARDOWN, WRITTEN_BACK, UNINITIALIZED, INITIALIZED, RUNNABLE, FREE, NL_MAPPED}
use Rattle.book_ledger.specs.{Codes.MAPPED, Codes.PENDING, Codes.NL_BLOCKED, Codes.BLOCKED, Codes.PENDING_BLOCKED, Tables.Tables}
use Rattle.book_ledger.specs.declared.words.{Frame.Frame, Domain.Domain, Entry.Entry}
use Rattle.base_calls.specs.declared.{Call.Call, Fault.Fault, Refusal.Refusal, Reading.Reading}
use Rattle.call_plan.specs.{Edits.entry, Edits.free_entry, Lookup.on_parties, Lookup.root_in, Lookup.parties_for, Lookup.spot_for, Lookup.built_for}
use Rattle.call_plan.proofs.Parts.{edit}
use Rattle.call_domains.specs.Domains.{fresh_domain}
use Rattle.call_domains.specs.Domains as plans
use Rattle.call_plan.specs.Entries.{blocked_state, unblocked_state, on_reach, Reach}
use Rattle.call_plan.specs.Changes.{refuse, become, gain, lose, on_frame}
use Rattle.call_plan.specs.declared.{lookup.Subject.Subject, edit.StockEdit.StockEdit, edit.Edit.Edit, edit.Sweep.Sweep}
use Rattle.call_host.specs.Calls.{plan_of}
use Rattle.fact_keeps.specs.Views.{number, view}
use Rattle.fact_keeps.proofs.Stores.{FrameIn, frame_kept, frame_set, EntryIn, entry_kept, entry_set}
use Rattle.fact_keeps.proofs.Ranged.{IsBlock, between_true, sizes_in, Sized, sized, root_is, Lent}
use Rattle.fact_keeps.proofs.{Facts.DomainGood, Kept.Kept, Edits.keep_taken, Sweeps.KeptSweep, Sweeps.keep_sweep}
use Rattle.fact_keeps.proofs.Says.{ReachSays, Owned, Offered, free_says, tracked_says, on_option_fact, on_result_fact, Says}
use Rattle.fact_keeps.proofs.Says.{on_walk_fact, frame_says, parties_say, built_says, spot_built, no_frame_fact}
use Rattle.fact_keeps.proofs.Frames.{freed_good, tdr_good, tdcx_good, ept_good, reg_good, dated_good, tree_epoch}
use Rattle.fact_keeps.proofs.Edits.{DomainSound, domain_stays, domain_goes, StockSound, stock_stays, stock_takes, stock_gives, keep_edit, keep_listed}
use Rattle.fact_keeps.proofs.Lookups.{Refused, refused, IsDomain, IsEntry, domain_for_fact, walk_for, entry_for_fact, own_frame_fact, table_low}
use Rattle.call_adds.specs.Adds as adds
use Rattle.call_trees.specs.Trees as trees
use Rattle.call_pages.specs.Pages as pages
use Rattle.call_plan.specs.Edits.{FrameEdit, DomainEdit, EntryEdit, Plan, to_entry}
use Rattle.call_plan.specs.declared.edit.Deed.TheVariants.{Do, Each, Tell}
use Rattle.call_plan.specs.Lookup.{Operand}

-- a refusal, a read, an edit that keeps the range check and sets a frame of the window, if any, or a sweep that keeps it
pub data Keep (base : Hpa) (t : Tables) : Plan → Type 0 where
  says : {r : Refusal} → Keep base t (Err r)
  reads : {r : Reading} → Keep base t (Ok (Tell r))
  does : {e : Edit} → Kept base t e → Keep base t (Ok (Do e))
  sweeps : {w : Sweep} → KeptSweep base t w → Keep base t (Ok (Each w))

-- ---- small facts

-- a state that names a frame
abbrev Names : ℕ → Type 0
Names n = (FREE < n) × (n ≤ PENDING_BLOCKED)

blocked_state_fact : (n : ℕ) → Names (blocked_state n)
unfolding blocked_state
blocked_state_fact n = choose_both Names _ _ _ (λ _. omega arith) (λ _. choose_both Names _ _ _ (λ _. omega arith) (λ _. omega arith))

unblocked_state_fact : (n : ℕ) → Names (unblocked_state n)
unfolding unblocked_state
unblocked_state_fact n = choose_both Names _ _ _ (λ _. omega arith) (λ _. choose_both Names _ _ _ (λ _. omega arith) (λ _. omega arith))

module _ (base : Hpa) (t : Tables) (ok : Lent base t) where
  z : Sized t
  z = sized base t ok.sizes

  -- ---- on a frame; D's lookups

  on_frame_fact : (h : Hpa) (k : ℕ) (next : Pfn → Plan) → ((n : Pfn) → n.0 < length t.frames → Keep base t (next n)) → Keep base t (on_frame base t h k next)
  on_frame_fact h k next f = on_result_fact (Keep base t) (frame_says {R = Refused} base t h k refused) Err next (λ _ _. says) (λ n w. f n w.inside)

  -- D, with F if the call has one
  module _ (d : Hpa) {S : Pfn → Type 0} {f : Operand} (o : Says S Refused f) where
    abbrev Goes : (Subject → Pfn → Plan) → Type 0
    Goes next = (x : Subject) (m : Pfn) → IsDomain t x → S m → Keep base t (next x m)

    on_domain_fact : (next : Subject → Pfn → Plan) → Goes next → Keep base t (on_parties (parties_for base t d f) Err next)
    on_domain_fact next go =
        on_result_fact (Keep base t) (parties_say base t Refused (λ _ _ _. refused) d (λ _. IsDomain t) (domain_for_fact base t ok) f o)
        Err (λ q. next q.0 q.1) (λ _ _. says) (λ q p. go q.0 q.1 p.found p.offered)

    on_built_fact : (least most : ℕ) (next : Subject → Pfn → Plan) → Goes next → Keep base t (on_parties (built_for base t d f least most) Err next)
    on_built_fact least most next go =
        on_result_fact (Keep base t) (built_says base t Refused (λ _ _ _. refused) d (λ _. IsDomain t) (domain_for_fact base t ok) f o least most)
        Err (λ q. next q.0 q.1) (λ _ _. says) (λ q p. go q.0 q.1 p.party.found p.party.offered)

    on_spot : (gpa : Gpa) (level lowest least most : ℕ) (next : Subject → Pfn → Plan) → Goes next
        → Keep base t (on_parties (spot_for base t d gpa level lowest f least most) Err next)
    on_spot gpa level lowest least most next go =
        on_result_fact (Keep base t)
        (spot_built base t Refused (λ _ _ _. refused) d (λ _. IsDomain t) (domain_for_fact base t ok) gpa level lowest f o least most)
        Err (λ q. next q.0 q.1) (λ _ _. says) (λ q p. go q.0 q.1 p.party.found p.party.offered)

  -- an entry
  on_entry_fact : {Q : ℕ → ℕ → Entry → Type 0} {q : Reach} → ReachSays Q Refused q → (next : ℕ → ℕ → Entry → Plan)
      → ((b i : ℕ) (e : Entry) → Q b i e → Keep base t (next b i e)) → Keep base t (on_reach q Err next)
  on_entry_fact r next go = on_result_fact (Keep base t) r Err (λ q. next q.0.block q.0.index q.1) (λ a _. says) (λ q h. go q.0.block q.0.index q.1 h)

  module _ (x : Subject) (k : IsDomain t x) (gpa : Gpa) (level : ℕ) where
    free : (m : Pfn) (n : ℕ) → ReachSays (Offered (IsEntry t FREE FREE) t m) Refused (adds.free_for t x gpa level m n)
    free m n = free_says t Refused (λ _ _ _. refused) x gpa level m n (entry_for_fact base t ok x k gpa level FREE FREE)

    tracked : (least most : ℕ) → ReachSays (Owned (IsEntry t least most) t x) Refused (trees.tracked_for t x gpa level least most)
    tracked low top = tracked_says t Refused (λ _ _ _. refused) x gpa level low top (entry_for_fact base t ok x k gpa level low top) (λ _ _ _ _ _. refused)

  check : (b : Bool) (p : Plan) (r : Refusal) → (b ≡ true → Keep base t p) → Keep base t (choose b p (Err r))
  check b p r f = choose_both (Keep base t) b p (Err r) f (λ _. says)

  -- ---- how a call ends

  by_parts : {fe : FrameEdit} {de : DomainEdit} {se : StockEdit} {ee : EntryEdit} → FrameIn t fe → DomainSound t de → StockSound t se → EntryIn t ee
      → Keep base t (Ok (Do (edit fe None de se ee)))
  by_parts f d s e = does (keep_edit base t ok f d s e)

  changed : (x : Subject) {v : Domain} → IsDomain t x → DomainGood (length t.frames) v → v.listed ≡ x.dom.listed
      → DomainSound t (Some (x.rec, v))
  changed x d g l = domain_goes d.rec g (l ∙ ap (λ (y : Domain). y.listed) d.dom)

  becomes : (x : Subject) {v : Domain} → IsDomain t x → DomainGood (length t.frames) v → v.listed ≡ x.dom.listed → Keep base t (become x v)
  becomes x d g l = by_parts frame_kept (changed x d g l) stock_stays entry_kept

  gains : (x : Subject) {n : Pfn} {f : Frame} {se : StockEdit} {ee : EntryEdit} → IsDomain t x → FrameIn t (Some (n, f)) → StockSound t se
      → EntryIn t ee → Keep base t (gain (length t.frames) x (record
      { frame = n; becomes = f; page = None; listed = x.dom.listed; stock = se; entry = ee }))
  unfolding gain given
  gains x d fs ss es = check _ _ _ (λ e.
      let room = ltb-true x.dom.children (length t.frames) e in
      by_parts fs (changed x d (search arith) refl) ss es)

  loses : (x : Subject) (n : Pfn) {se : StockEdit} {ee : EntryEdit} → IsDomain t x → n.0 < length t.frames → StockSound t se → EntryIn t ee
      → Keep base t (lose x n se ee)
  unfolding lose given
  loses x n d h ss es = choose_both (Keep base t) _ _ _ (λ _. says) (λ _.
      by_parts (frame_set h (freed_good (sizes_in t))) (changed x d (search arith) refl) ss es)

  named : {b i s : ℕ} {f : Pfn} → IsBlock t b → Names s → f.0 < length t.frames → EntryIn t (to_entry b i (entry s f))
  unfolding choose
  named {s = s} {f = f} b w h = entry_set {v = entry s f} b
      (rw (le-leb s PENDING_BLOCKED w.1, ne_eqb s FREE (λ q. omega arith), lt-ltb f.0 (length t.frames) h) refl)

  emptied : {b i : ℕ} → IsBlock t b → EntryIn t (to_entry b i free_entry)
  unfolding choose
  emptied b = entry_set b refl

  -- ---- the calls on a domain's record

  life_keeps : (d : Hpa) (least most life : ℕ) → life ≤ WRITTEN_BACK → Keep base t (plans.life_plan base t d least most life)
  unfolding plans.life_plan given
  life_keeps d least most life h = on_domain_fact d no_frame_fact _ (λ x _ k _. check _ _ _ (λ _. becomes x k (search) refl))

  op_keeps : (d : Hpa) (from op : ℕ) → op ≤ RUNNABLE → Keep base t (plans.op_plan base t d from op)
  unfolding plans.op_plan given
  op_keeps d from op h = on_built_fact d no_frame_fact from from _ (λ x _ k _. becomes x k (search) refl)

  page_keeps : (d : Hpa) (gpa : Gpa) (f : Hpa) (op state : ℕ) → Names state → Keep base t (adds.page_plan base t d gpa f op state)
  unfolding adds.page_plan adds.add_page_at given
  page_keeps d gpa f op state w = on_spot d (frame_says base t f 2 refused) gpa 0 0 op op _ (λ x m k i.
      on_entry_fact (free x k gpa 0 m 2) _ (λ b j e ie.
      gains x k (frame_set i.inside (reg_good (sizes_in t) x.tdr.0 k.tdr)) stock_stays (named ie.entry.block w i.inside)))

  -- every call
  pub plan_keeps : (c : Call) → Keep base t (plan_of base t c)
  unfolding plan_of given gain plans.track_plan plans.addcx_plan plans.enlist_at plans.create_plan plans.create_at plans.new_record adds.septadd_plan adds.add_table_at
      trees.block_plan trees.block_at trees.unblock_plan trees.unblock_at trees.pageremove_plan trees.pageremove_at trees.septremove_plan trees.septremove_at
      trees.readentry_plan trees.readentry_at pages.reclaim_plan pages.reclaim_at pages.reclaim_tdr pages.reclaim_child pages.readpage_plan
  plan_keeps (Call.Create f key) = on_frame_fact f 0 _ (λ n h. check _ _ _ (λ kk. check _ _ _ (λ _. check _ _ _ (λ _.
      on_option_fact (Keep base t) _ (refuse Fault.Stock 0) _ says (λ b a.
      let w = lowest_found t.stock _ _ b a in
      let r : b - (sizes_in t).tables < (sizes_in t).records = omega (arith, w.below, w.since, z.blocks) in
      let root : root_in t (b - (sizes_in t).tables) ≡ b = root_is t _ r ∙ omega (arith, w.since) in
      let key_in = between_true key_least key key_most kk in
      rw root (does (keep_taken base t ok (frame_set h (tdr_good (sizes_in t) _ r)) _ (fresh_domain key) r
      (search arith) b (omega (arith, w.since)) refl)))))))
  plan_keeps (Call.KeyConfig d) = life_keeps d ASSIGNED ASSIGNED CONFIGURED (omega arith)
  plan_keeps (Call.AddCx d f) = on_domain_fact d (frame_says base t f 1 refused) _ (λ x m k w.
      check _ _ _ (λ _. check _ _ _ (λ few. check _ _ _ (λ _. check _ _ _ (λ room.
      let fw : x.dom.listed < control_pages = ltb-true _ _ few in
      let rm : x.dom.children < length t.frames = ltb-true _ _ room in
      does (keep_listed base t ok (frame_set w.inside (tdcx_good (sizes_in t) x.tdr.0 k.tdr))
      x.rec _ k.rec (search arith) x.dom.listed m (ap (λ (y : Domain). y.listed) k.dom) fw refl w.inside))))))
  plan_keeps (Call.Init d) = op_keeps d UNINITIALIZED INITIALIZED (omega arith)
  plan_keeps (Call.SeptAdd d gpa level f) = on_spot d (frame_says base t f 3 refused) gpa level 1 INITIALIZED RUNNABLE _ (λ x m k i.
      on_entry_fact (free x k gpa level m 3) _ (λ b j e ie.
      on_option_fact (Keep base t) _ (refuse Fault.Stock 0) _ says (λ c a.
      let w = lowest_found t.stock _ _ c a in
      gains x k (frame_set i.inside (ept_good (sizes_in t) x.tdr.0 c k.tdr w.below)) (stock_takes w.below)
      (named ie.entry.block (omega arith) i.inside))))
  plan_keeps (Call.PageAdd d gpa f) = page_keeps d gpa f INITIALIZED MAPPED (omega arith)
  plan_keeps (Call.Finalize d) = op_keeps d INITIALIZED RUNNABLE (omega arith)
  plan_keeps (Call.PageAug d gpa f) = page_keeps d gpa f RUNNABLE PENDING (omega arith)
  plan_keeps (Call.Block d gpa level) = on_spot d no_frame_fact gpa level 0 INITIALIZED RUNNABLE _ (λ x _ k _.
      on_entry_fact (entry_for_fact base t ok x k gpa level NL_MAPPED PENDING) _ (λ b j e ie. check _ _ _ (λ o.
      let own = own_frame_fact base t ok x.tdr e o in
      let was = ok.ranged.frame e.frame.0 own.inside in
      by_parts (frame_set own.inside (dated_good (sizes_in t) _ _ (tree_epoch (sizes_in t) e.state own.type) k.good.epoch.1 was))
      domain_stays stock_stays (named ie.block (blocked_state_fact e.state) own.inside))))
  plan_keeps (Call.Track d) = on_built_fact d no_frame_fact INITIALIZED RUNNABLE _ (λ x _ k _. check _ _ _ (λ e.
      let low = ltb-true x.dom.epoch epoch_most e in
      becomes x k (search arith) refl))
  plan_keeps (Call.Unblock d gpa level) = on_spot d no_frame_fact gpa level 0 INITIALIZED RUNNABLE _ (λ x _ k _.
      on_entry_fact (tracked x k gpa level NL_BLOCKED PENDING_BLOCKED) _ (λ b j e ie.
      by_parts frame_kept domain_stays stock_stays
      (named ie.entry.block (unblocked_state_fact e.state) (own_frame_fact base t ok x.tdr e ie.own).inside)))
  plan_keeps (Call.PageRemove d gpa) = on_spot d no_frame_fact gpa 0 0 INITIALIZED RUNNABLE _ (λ x _ k _.
      on_entry_fact (tracked x k gpa 0 BLOCKED PENDING_BLOCKED) _ (λ b j e ie.
      loses x e.frame k (own_frame_fact base t ok x.tdr e ie.own).inside stock_stays (emptied ie.entry.block)))
  plan_keeps (Call.SeptRemove d gpa level) = on_spot d no_frame_fact gpa level 1 INITIALIZED RUNNABLE _ (λ x _ k _.
      on_entry_fact (tracked x k gpa level NL_BLOCKED NL_BLOCKED) _ (λ b j e ie. check _ _ _ (λ _.
      let own = own_frame_fact base t ok x.tdr e ie.own in
      let l = own.table (inr (omega (arith, ie.entry.state))) in
      loses x e.frame k own.inside (stock_gives {b = number (view t) e.frame.0} (omega arith)) (emptied ie.entry.block))))
  plan_keeps (Call.FlushDone d) = life_keeps d ASSIGNED CONFIGURED BLOCKED_LIFE (omega arith)
  plan_keeps (Call.KeyFree d) = life_keeps d WRITTEN_BACK WRITTEN_BACK TEARDOWN (omega arith)
  plan_keeps (Call.Reclaim f) = on_frame_fact f 0 _ (λ n h. choose_both (Keep base t) _ _ _ (λ _. says) (λ _. choose_both (Keep base t) _ _ _
      (λ _. on_result_fact (Keep base t) (domain_for_fact base t ok n) _ _ (λ a _. says) (λ x k. check _ _ _ (λ _. check _ _ _ (λ _.
      by_parts (frame_set k.tdr (freed_good (sizes_in t))) domain_stays (stock_gives {b = x.bit} (omega (arith, k.bit, k.rec))) entry_kept))))
      (λ _. on_result_fact (Keep base t) (domain_for_fact base t ok _) _ _ (λ a _. says) (λ x k. check _ _ _ (λ _. choose_both (Keep base t) _ _ _
      (λ e. check _ _ _ (λ _.
      let l = table_low base t ok n.0 (eqb-true _ _ e) in
      loses x n k h (stock_gives {b = number (view t) n.0} (omega arith)) entry_kept))
      (λ _. loses x n k h stock_stays entry_kept))))))
  plan_keeps (Call.ReadPage f) = on_frame_fact f 0 _ (λ n h. choose_both (Keep base t) _ _ _ (λ _. reads) (λ _. reads))
  plan_keeps (Call.ReadEntry d gpa level) = on_spot d no_frame_fact gpa level 0 INITIALIZED RUNNABLE _ (λ x _ k _.
      on_walk_fact (Keep base t) (walk_for base t ok x k gpa level) _ _ _ (λ j i. says) (λ _. says)
      (λ b i sp. choose_both (Keep base t) _ _ _ (λ _. reads) (λ _. reads)))
  plan_keeps (Call.CacheWb) = sweeps (keep_sweep base t ok plans.write_back (omega arith))
