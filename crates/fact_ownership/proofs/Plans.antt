-- Every call's plan in a sound state: a mild refusal, a read, or a step on the call's own domain. Each plan is followed down its checks to an edit.
use Rattle.std.specs.Prelude.{Some, None, Ok, Err}
use Rattle.base_rules.specs.Basics.{◌≡◌, Bool, true, false, List, ℕ, ◌+◌, ◌-◌, ◌<◌, ◌≤◌, ◌/◌, eqb, length, choose, given, on_option, on_result}
use Rattle.base_rules.proofs.Facts.{refl, sym, ap, ◌∙◌, subst, true≢false, le_trans, le_antisymm, arith, eqb-true, eqb-false, ltb-true, ne_eqb, eq-eqb, by_eq}
use Rattle.base_rules.proofs.Facts.{choose_both, all_at, at_from}
use Rattle.call_plan.specs.declared.{lookup.Subject.Subject, edit.StockEdit.StockEdit, edit.Edit.Edit}
use Rattle.fact_ownership.proofs.{Domain.mine_belongs, Cases.fits_table, Cases.fits_page, Cases.Ends, Cases.lives, Cases.ends}
use Rattle.base_levels.specs.Level.{top_level}
use Rattle.base_units.specs.{Limits.table_entries, declared.address.Hpa.Hpa, declared.address.Gpa.Gpa, declared.address.Pfn.Pfn}
use Rattle.book_stock.proofs.Lowest.{lowest_found}
use Rattle.book_ledger.specs.Codes.{NDA, TDR, EPT, REG, ASSIGNED, CONFIGURED, BLOCKED_LIFE, TEARDOWN, WRITTEN_BACK, UNINITIALIZED, INITIALIZED, RUNNABLE}
use Rattle.book_ledger.specs.{Codes.FREE, Codes.NL_MAPPED, Codes.MAPPED, Codes.PENDING, Codes.NL_BLOCKED, Codes.BLOCKED, Codes.PENDING_BLOCKED, Tables.Tables}
use Rattle.book_ledger.specs.declared.words.{Frame.Frame, Entry.Entry}
use Rattle.book_walk.specs.Walk.{entry_type}
use Rattle.base_calls.specs.{declared.Call.Call, Answers.number_of_fault, declared.Fault.Fault, declared.Refusal.Refusal, declared.Reading.Reading}
use Rattle.call_plan.specs.Edits.{new_ept, new_reg, with_frame_epoch, Plan}
use Rattle.call_plan.specs.Lookup.{on_parties, frame_operand, spot_for, Parties}
use Rattle.call_plan.specs.Entries.{blocked_state, unblocked_state, table_empty, free_at, on_reach, Reach}
use Rattle.call_plan.specs.Changes.{refuse, gain, lose, on_frame, on_domain, on_built, on_live}
use Rattle.call_carry.specs.Carry.{applied}
use Rattle.call_host.specs.Calls.{plan_of}
use Rattle.fact_keeps.specs.Views.{kind, key, owner, number, frame, view, place_in}
use Rattle.fact_ownership.specs.Owned.{Found, page, shape_of, points, finds, without, Keyed, Belongs}
use Rattle.fact_ownership.specs.{Reached.extent, Reached.Lists, Reached.role_of, Reached.subject, Reached.left, Always.a_record, Always.a_table}
use Rattle.fact_keeps.proofs.{Stores.After, Ranged.between_true, Ranged.sizes_in, Ranged.sized, Ranged.root_is, Lookups.record_low}
use Rattle.fact_keeps.proofs.Says.{PartiesSays, Party, Built, InWindow, ReachSays, Offered, Owned, is_nda_fact, free_says, tracked_says, on_option_fact}
use Rattle.fact_keeps.proofs.Says.{on_walk_fact, frame_says, parties_say, built_says, spot_built, no_frame_fact, on_result_fact}
use Rattle.fact_ownership.proofs.Facts.{Mild, mild_no, mild_stop, table_shape}
use Rattle.fact_ownership.proofs.State.{State, record_of, domain_is_fact, looked, IsDomain, IsEntry, domain_for_fact, entry_own, own_frame_fact, entry_for_fact, walk_good}
use Rattle.fact_ownership.proofs.{State.count_room, State.count_some, Turns.enlist_turn, Turns.new_turn, Turns.retire_turn}
use Rattle.fact_ownership.proofs.Stepped.{frame_stays, frame_becomes, stock_bare, table_taken_fact, block_given}
use Rattle.fact_ownership.proofs.Turns.{Does, Turn, says, reads, does, become_turn, entry_turn, put_turn, table_wiped, take_turn, reclaim_turn}
use Rattle.call_domains.specs.Domains as plans
use Rattle.call_adds.specs.Adds as adds
use Rattle.call_trees.specs.Trees as trees
use Rattle.call_pages.specs.Pages as pages
use Rattle.call_plan.specs.declared.edit.Deed.TheVariants.{Do, Tell}
use Rattle.base_calls.specs.declared.Refusal.TheVariants.{No}

-- what a call's plan does in a sound state
pub data Good (base : Hpa) (t : Tables) (l : Lists) (c : Call) : Plan → Type 0 where
  answers : {r : Refusal} → Mild r → Good base t l c (Err r)
  reading : {r : Reading} → left base t (role_of c) l ≡ l → Good base t l c (Ok (Tell r))
  steps : {e : Edit} {gone come : List Found} (n : Pfn) → subject base t (role_of c) ≡ Some n
      → (After (view t) (view (applied e t)) e → Does t (view (applied e t)) l (left base t (role_of c) l) n.0 gone come) → Good base t l c (Ok (Do e))
  writes : c ≡ Call.CacheWb → left base t (role_of c) l ≡ l → Good base t l c plans.cachewb_plan

good : {base : Hpa} {t : Tables} {l l' : Lists} {c : Call} {p : Plan} (n : Pfn) → subject base t (role_of c) ≡ Some n → left base t (role_of c) l ≡ l'
    → Turn base t l l' n.0 p → Good base t l c p
good n s e (says m) = answers m
good n s e (reads f) = reading (e ∙ f)
good n s e (does {e = x} {gone = g} {come = c} d) = steps {e = x} {gone = g} {come = c} n s (λ a. rw e (d a))

-- ---- small facts

-- a state that is blocked or unblocked keeps its shape
blocked_shape : (n : ℕ) → NL_MAPPED ≤ n → n ≤ PENDING → shape_of (blocked_state n) ≡ shape_of n
unfolding blocked_state shape_of choose
blocked_shape n lo hi = by_eq n NL_MAPPED (λ e. rw e refl) (λ a. by_eq n MAPPED (λ e. rw e refl) (λ b. rw (le_antisymm hi (omega arith)) refl))

unblocked_shape : (n : ℕ) → NL_BLOCKED ≤ n → n ≤ PENDING_BLOCKED → shape_of (unblocked_state n) ≡ shape_of n
unfolding unblocked_state shape_of choose
unblocked_shape n lo hi = by_eq n NL_BLOCKED (λ e. rw e refl) (λ a. by_eq n BLOCKED (λ e. rw e refl) (λ b. rw (le_antisymm hi (omega arith)) refl))

module _ {base : Hpa} {t : Tables} {l : Lists} (st : State base t l) where
  -- a check that refuses with a fault, and what follows where it passes
  check : {l' : Lists} {d : ℕ} {b : Bool} {p : Plan} (w : Fault) (k : ℕ) → number_of_fault w < 13 → (b ≡ true → Turn base t l l' d p)
      → Turn base t l l' d (choose b p (refuse w k))
  check {l'} {d} w k m f = choose_both (Turn base t l l' d) _ _ _ f (λ _. says (mild_no w k m))

  -- a check that always passes
  sure : {l' : Lists} {d : ℕ} {b : Bool} {p : Plan} (q : Plan) → b ≡ true → Turn base t l l' d p → Turn base t l l' d (choose b p q)
  unfolding choose
  sure q e h = rw e h

  -- .. and one that never does
  skip : {l' : Lists} {d : ℕ} {b : Bool} {p : Plan} (q : Plan) → b ≡ false → Turn base t l l' d p → Turn base t l l' d (choose b q p)
  unfolding choose
  skip q e h = rw e h

  -- ---- on a frame; D's lookups: a refusal on the way is mild, and D is what its TDR's frame e says

  on_frame_fact : (c : Call) (h : Hpa) (k : ℕ) (next : Pfn → Plan) → ((e : ℕ) → place_in base t h ≡ Some (frame e) → Good base t l c (next (frame e)))
      → Good base t l c (on_frame base t h k next)
  on_frame_fact c h k next f =
      let bad : Mild (No Fault.Operand k) = mild_no Fault.Operand k (omega arith) in
      on_result_fact (Good base t l c) (frame_says base t h k bad) Err next (λ r m. answers m) (λ n w. f n.0 w.place)

  abbrev D : Pfn → Subject → Type 0
  D n x = IsDomain t n.0 x

  module _ (c : Call) (d : Hpa) (su : subject base t (role_of c) ≡ place_in base t d) where
    -- what is to be shown of D, and of D with its key
    abbrev OfDomain : (Subject → Plan) → Type 0
    OfDomain next = (e : ℕ) → place_in base t d ≡ Some (frame e) → kind (view t) e ≡ TDR → Turn base t l (left base t (role_of c) l) e (next (looked t e))

    abbrev OfBuilt : ℕ → (Subject → Plan) → Type 0
    OfBuilt least next = (e : ℕ) → Keyed (view t) e → least ≤ (record_of t e).op → Turn base t l (left base t (role_of c) l) e (next (looked t e))

    on_party : {S : Pfn → Type 0} {q : Parties} → PartiesSays (Party (InWindow base t d) D S) Mild q → (next : Subject → Pfn → Plan)
        → ((m : Pfn) → S m → OfDomain (λ x. next x m)) → Good base t l c (on_parties q Err next)
    on_party w next f = on_result_fact (Good base t l c) w Err (λ q. next q.0 q.1) (λ r m. answers m) (λ q p.
        rw p.found.is (good p.tdr (su ∙ p.place.place) refl (f q.1 p.offered p.tdr.0 p.place.place p.found.kind)))

    on_domain_fact : (next : Subject → Plan) → OfDomain next → Good base t l c (on_domain base t d next)
    on_domain_fact next f = on_party (parties_say base t Mild mild_no d D (domain_for_fact st) _ no_frame_fact) _ (λ m _. f)

    on_ready : {S : Pfn → Type 0} {q : Parties} {least most : ℕ} → PartiesSays (Built (Party (InWindow base t d) D S) least most) Mild q
        → (next : Subject → Pfn → Plan) → ((m : Pfn) → S m → OfBuilt least (λ x. next x m)) → Good base t l c (on_parties q Err next)
    on_ready w next f = on_result_fact (Good base t l c) w Err (λ q. next q.0 q.1) (λ r m. answers m) (λ q p.
        let i = p.party.found in
        let k : Keyed (view t) _ = record { tdr = i.kind; held = λ e. omega (arith, sym (ap (λ (y : Subject). y.dom.life) i.is) ∙ p.life) } in
        rw i.is (good p.party.tdr (su ∙ p.party.place.place) refl
        (f q.1 p.party.offered _ k (omega (arith, p.op.0, ap (λ (y : Subject). y.dom.op) i.is)))))

    on_built_fact : (least most : ℕ) (next : Subject → Plan) → OfBuilt least next → Good base t l c (on_built base t d least most next)
    on_built_fact least most next f = on_ready (built_says base t Mild mild_no d D (domain_for_fact st) _ no_frame_fact least most) _ (λ m _. f)

    on_live_fact : (gpa : Gpa) (level lowest : ℕ) (next : Subject → Plan) → OfBuilt INITIALIZED next → Good base t l c (on_live base t d gpa level lowest next)
    on_live_fact gpa level lowest next f =
        on_ready (spot_built base t Mild mild_no d D (domain_for_fact st) gpa level lowest _ no_frame_fact INITIALIZED RUNNABLE) _ (λ m _. f)

    on_spot : (gpa : Gpa) (level lowest : ℕ) (h : Hpa) (j least most : ℕ) (next : Subject → Pfn → Plan)
        → ((m : Pfn) → m.0 < length t.frames → OfBuilt least (λ x. next x m))
        → Good base t l c (on_parties (spot_for base t d gpa level lowest (frame_operand base (length t.frames) h j) least most) Err next)
    on_spot gpa level lowest h j least most next f =
        let o = frame_says base t h j (mild_no Fault.Operand j (omega arith)) in
        on_ready (spot_built base t Mild mild_no d D (domain_for_fact st) gpa level lowest _ o least most) next (λ m i. f m i.inside)

  -- ---- the calls on a domain's record

  -- keyconfig, flushdone and keyfree: the lifecycle, which isn't teardown, moves on, to teardown with keyfree alone
  life_good : (c : Call) (d : Hpa) (least most now : ℕ) → (least ≤ TEARDOWN → TEARDOWN ≤ most → ⊥) → subject base t (role_of c) ≡ place_in base t d
      → ((e : ℕ) → place_in base t d ≡ Some (frame e) → Ends l e (finds (extent t) (view t) e) now (left base t (role_of c) l))
      → Good base t l c (plans.life_plan base t d least most now)
  unfolding plans.life_plan given
  life_good c d least most now lo su le = on_domain_fact c d su _ (λ e q k. check Fault.Life 0 (omega arith) λ u.
      let a = between_true least (record_of t e).life most u in
      become_turn st e (record { tdr = k; held = λ z. lo (omega (arith, a)) (omega (arith, a)) }) _ refl refl refl (λ u. u) (le e q))

  -- init and finalize
  op_good : (c : Call) (d : Hpa) (old now : ℕ) → (now ≡ UNINITIALIZED → ⊥) → subject base t (role_of c) ≡ place_in base t d → left base t (role_of c) l ≡ l
      → Good base t l c (plans.op_plan base t d old now)
  unfolding plans.op_plan given
  op_good c d old now some su le = on_built_fact c d su old old _ (λ e k _. rw le (become_turn st e k _ refl refl refl (λ u. absurd (some u)) (lives k.held)))

  -- a key that create may give is no keyed domain's
  sole : (key' : ℕ) → plans.key_unused t.domains t.stock (extent t).tables (length t.entries / table_entries) key' ≡ true
      → (e : ℕ) → Keyed (view t) e → (record_of t e).key ≡ key' → ⊥
  unfolding plans.key_unused plans.other_key given choose
  sole key' u e k q =
      let n = number (view t) e in
      let low = record_low base t st.lent e k.tdr in
      let back : (extent t).tables + n - (extent t).tables ≡ n = omega arith in
      let a = at_from (plans.other_key t.domains t.stock (extent t).tables key') _ (extent t).tables ((extent t).tables + n) u (omega arith)
      (omega (arith, low, (sized base t st.lent.sizes).blocks)) in
      k.held (eqb-true _ _ (rw (st.ok.used TDR e a_record k.tdr, back, eq-eqb (key (view t) n) key' q) at a))

  -- ---- the calls on a domain's tree

  -- what follows of the entry that is reached; Q says besides that a frame is offered for it, or its own tracked
  at_entry : {d least most : ℕ} {Q : ℕ → ℕ → Entry → Type 0} {q : Reach} (k : ℕ → ℕ → Entry → Plan) → ReachSays Q Mild q
      → ((b i : ℕ) (e : Entry) → Q b i e → IsEntry t d least most b i e)
      → ((b i : ℕ) → Q b i ((view t).entry b i) → Turn base t l l d (k b i ((view t).entry b i))) → Turn base t l l d (on_reach q Err k)
  at_entry {d} {Q = Q} k r g f = on_result_fact (Turn base t l l d) r Err (λ p. k p.0.block p.0.index p.1) (λ a z. says z) (λ p x.
      let q = (g p.0.block p.0.index p.1 x).entry in rw q (f p.0.block p.0.index (subst (λ (y : Entry). Q p.0.block p.0.index y) q x)))

  offer : (e : ℕ) → Keyed (view t) e → (gpa : Gpa) (level : ℕ) (m : Pfn) (k : ℕ)
      → ReachSays (Offered (IsEntry t e FREE FREE) t m) Mild (adds.free_for t (looked t e) gpa level m k)
  offer e kd gpa level m k = free_says t Mild mild_no (looked t e) gpa level m k (entry_for_fact st e kd gpa level FREE FREE)

  page_good_fact : (c : Call) (d : Hpa) (gpa : Gpa) (f : Hpa) (op' state : ℕ) → shape_of state ≡ page → INITIALIZED ≤ op'
      → subject base t (role_of c) ≡ place_in base t d → left base t (role_of c) l ≡ l → Good base t l c (adds.page_plan base t d gpa f op' state)
  unfolding adds.page_plan adds.add_page_at gain given
  page_good_fact c d gpa f op' state sh init su le = on_spot c d su gpa 0 0 f 2 op' op' _ (λ m h' e k since. rw le (
      at_entry _ (offer e k gpa 0 m 2) (λ b i y x. x.entry) (λ b i x.
      sure _ (count_room st e m.0 k.tdr h' x.free)
      (put_turn st e k (le_trans init since) b i x.entry.spot (le_antisymm x.entry.state.1 (omega arith)) m.0 x.free
      (new_reg (frame e)) refl state (rw sh fits_page) (StockEdit.Keep) (stock_bare (omega (arith, x.free)) (omega arith)) (λ z. absurd (omega arith))))))

  -- a tracked entry: its frame's 14 never comes
  tracked : (e : ℕ) → Keyed (view t) e → (gpa : Gpa) (level least most : ℕ) → NL_BLOCKED ≤ least
      → ReachSays (Owned (IsEntry t e least most) t (looked t e)) Mild (trees.tracked_for t (looked t e) gpa level least most)
  tracked e k gpa level least most h = tracked_says t Mild mild_no (looked t e) gpa level least most (entry_for_fact st e k gpa level least most) (λ b i y ie u.
      absurd (true≢false (sym (own_frame_fact st e b i k ie.spot (λ z. omega (arith, ie.state))) ∙ rw ie.entry at u)))

  -- the count's 14 never comes where a domain has a frame
  lose_some : (d F : ℕ) → kind (view t) d ≡ TDR → Belongs (view t) d F → eqb (record_of t d).children 0 ≡ false
  lose_some d F k b = ne_eqb _ _ (λ (q : (record_of t d).children ≡ 0). omega (arith, count_some st d F b k))

  page_type : (n : ℕ) → BLOCKED ≤ n → entry_type n ≡ REG
  unfolding entry_type choose
  page_type n h = rw (ne_eqb n NL_MAPPED (λ q. omega arith), ne_eqb n NL_BLOCKED (λ q. omega arith)) refl

  table_type : (n : ℕ) → n ≡ NL_BLOCKED → entry_type n ≡ EPT
  unfolding entry_type choose
  table_type n h = rw h refl

  empty_at : (b : ℕ) → table_empty t.entries b ≡ true → (j : ℕ) → j < table_entries → ((view t).entry b j).state ≡ FREE
  unfolding table_empty free_at given
  empty_at b e j h = eqb-true _ _ (all_at (free_at t.entries b) table_entries e j h)

  -- ---- reclaim: of a TDR, or of a frame of a domain in teardown

  abbrev Struck : ℕ → Lists
  Struck f x = without f (l x)

  tdr_turn : (d : ℕ) → kind (view t) d ≡ TDR → Turn base t l (Struck d) d (pages.reclaim_tdr (looked t d))
  unfolding pages.reclaim_tdr
  tdr_turn d k = check Fault.Life 0 (omega arith) λ _. check Fault.Remains 0 (omega arith) λ e. retire_turn st d k (eqb-true _ _ e)

  child_turn : (f : ℕ) → TDR < kind (view t) f
      → Turn base t l (Struck f) (owner (view t) f) (pages.reclaim_child t.stock (looked t (owner (view t) f)) (frame f) ((view t).frame f))
  unfolding pages.reclaim_child lose given
  child_turn f k = check Fault.Life 0 (omega arith) λ e.
      let d : ℕ = owner (view t) f in
      let b : Belongs (view t) d f = record { type = k; owner = refl } in
      let some = lose_some d f (st.ok.owners f k) b in
      let dead : (record_of t d).life ≡ TEARDOWN = eqb-true _ _ e in
      choose_both (Turn base t l (Struck f) d) _ _ _
      (λ e'. let z : kind (view t) f ≡ EPT = eqb-true _ _ e' in
      sure _ (st.ok.used EPT f a_table z) (skip _ some (reclaim_turn st d (st.ok.owners f k) dead f b _ (block_given a_table z (omega arith)))))
      (λ e'. skip _ some (reclaim_turn st d (st.ok.owners f k) dead f b _ (stock_bare ((λ q. omega arith), eqb-false _ _ e') (omega arith))))

  over : (m : ℕ) → (kind (view t) m ≡ NDA → ⊥) → (kind (view t) m ≡ TDR → ⊥) → TDR < kind (view t) m
  over m a b = omega arith

  -- ---- every call

  pub plan_good : (c : Call) → Good base t l c (plan_of base t c)
  unfolding plan_of
  plan_good (Call.Create f key') = unfold plans.create_plan plans.create_at plans.new_record subject left role_of given in
      on_frame_fact (Call.Create f key') f 0 _ (λ n q. good (frame n) q refl (
      check Fault.Operand 1 (omega arith) λ e. check Fault.Kind 0 (omega arith) λ e'. check Fault.Key 1 (omega arith) λ alone.
      on_option_fact (Turn base t l l n) _ (refuse Fault.Stock 0) _ (says (mild_no Fault.Stock 0 (omega arith))) (λ b a.
      let w = lowest_found t.stock _ _ b a in
      let first : ℕ = (extent t).tables in
      let r : first + (b - first) ≡ b = omega (arith, w.since) in
      let low : b - first < (sizes_in t).records = omega (arith, w.below, w.since, (sized base t st.lent.sizes).blocks) in
      rw (root_is t (b - first) low) (subst (λ (x : ℕ). Turn base t l l n (plans.new_record (frame n) key' x (first + (b - first)) (b - first))) r
      (new_turn st n (is_nda_fact t (frame n) e') key' (b - first) (ap (view t).used r ∙ w.unused) (sole key' alone))))))
  plan_good (Call.KeyConfig d) = unfold subject left role_of in
      life_good (Call.KeyConfig d) d ASSIGNED ASSIGNED CONFIGURED (λ a b. omega arith) refl (λ n q. lives (omega arith))
  plan_good (Call.AddCx d f) = unfold plans.addcx_plan plans.enlist_at gain subject left role_of given in on_party (Call.AddCx d f) d refl
      (parties_say base t Mild mild_no d D (domain_for_fact st) _ (frame_says base t f 1 (mild_no Fault.Operand 1 (omega arith)))) _ (λ m o e _ k.
      check Fault.Life 0 (omega arith) λ u. check Fault.Pages 0 (omega arith) λ few. check Fault.Kind 1 (omega arith) λ z.
      let free = is_nda_fact t m z in
      let a : (record_of t e).life ≡ CONFIGURED = eqb-true _ _ u in
      sure _ (count_room st e m.0 k o.inside free) (enlist_turn st e (record { tdr = k; held = λ z. omega arith }) (ltb-true _ _ few) m.0 free))
  plan_good (Call.Init d) = unfold subject left role_of in op_good (Call.Init d) d UNINITIALIZED INITIALIZED (λ z. omega arith) refl refl
  plan_good (Call.SeptAdd d gpa level f) = unfold adds.septadd_plan adds.add_table_at gain subject left role_of given in
      on_spot (Call.SeptAdd d gpa level f) d refl gpa level 1 f 3 INITIALIZED RUNNABLE _ (λ m h' e k live.
      at_entry _ (offer e k gpa level m 3) (λ b i y x. x.entry) (λ b i x.
      on_option_fact (Turn base t l l e) _ (refuse Fault.Stock 0) _ (says (mild_no Fault.Stock 0 (omega arith))) (λ j a.
      let w = lowest_found t.stock _ _ j a in
      sure _ (count_room st e m.0 k.tdr h' x.free)
      (put_turn st e k live b i x.entry.spot (le_antisymm x.entry.state.1 (omega arith)) m.0 x.free (new_ept (frame e) j) refl NL_MAPPED
      (rw (table_shape NL_MAPPED refl) fits_table) (StockEdit.Table j) (table_taken_fact x.free refl w.below w.unused)
      (λ _. (w.unused, table_wiped _ j))))))
  plan_good (Call.PageAdd d gpa f) = unfold subject left role_of in
      page_good_fact (Call.PageAdd d gpa f) d gpa f INITIALIZED MAPPED (unfold shape_of choose in refl) (omega arith) refl refl
  plan_good (Call.Finalize d) = unfold subject left role_of in op_good (Call.Finalize d) d INITIALIZED RUNNABLE (λ z. omega arith) refl refl
  plan_good (Call.PageAug d gpa f) = unfold subject left role_of in
      page_good_fact (Call.PageAug d gpa f) d gpa f RUNNABLE PENDING (unfold shape_of choose in refl) (omega arith) refl refl
  plan_good (Call.Block d gpa level) = unfold trees.block_plan trees.block_at subject left role_of given in
      on_live_fact (Call.Block d gpa level) d refl gpa level 0 _ (λ e k live.
      at_entry _ (entry_for_fact st e k gpa level NL_MAPPED PENDING) (λ b i y x. x) (λ b i x.
      let some : ((view t).entry b i).state ≡ FREE → ⊥ = λ z. omega (arith, x.state) in
      let v : Frame = with_frame_epoch ((view t).frame (points (view t) b i)) (record_of t e).epoch in
      sure _ (own_frame_fact st e b i k x.spot some)
      (entry_turn st e k live b i x.spot some _ (blocked_shape _ x.state.0 x.state.1) _ v (frame_becomes {v = v}) refl refl refl)))
  plan_good (Call.Track d) = unfold plans.track_plan subject left role_of given in on_built_fact (Call.Track d) d refl INITIALIZED RUNNABLE _ (λ e k _.
      check Fault.Epoch 0 (omega arith) λ _. become_turn st e k _ refl refl refl (λ u. u) (lives k.held))
  plan_good (Call.Unblock d gpa level) = unfold trees.unblock_plan trees.unblock_at subject left role_of given in
      on_live_fact (Call.Unblock d gpa level) d refl gpa level 0 _ (λ e k live.
      at_entry _ (tracked e k gpa level NL_BLOCKED PENDING_BLOCKED (omega arith)) (λ b i y x. x.entry) (λ b i x.
      let h = x.entry.state in
      entry_turn st e k live b i x.entry.spot (λ z. omega (arith, h)) _ (unblocked_shape _ h.0 h.1) None _ frame_stays refl refl refl))
  plan_good (Call.PageRemove d gpa) = unfold trees.pageremove_plan trees.pageremove_at lose subject left role_of given in
      on_live_fact (Call.PageRemove d gpa) d refl gpa 0 0 _ (λ e k live.
      at_entry _ (tracked e k gpa 0 BLOCKED PENDING_BLOCKED (omega arith)) (λ b i y x. x.entry) (λ b i x.
      let some : ((view t).entry b i).state ≡ FREE → ⊥ = λ z. omega (arith, x.entry.state) in
      let m = entry_own st e b i k x.entry.spot some in
      let ty = m.kind ∙ page_type _ x.entry.state.0 in
      skip _ (lose_some e _ k.tdr (mine_belongs m))
      (take_turn st e k live b i x.entry.spot some (StockEdit.Keep) (stock_bare (omega arith) (omega arith)) (λ z. absurd (omega arith)))))
  plan_good (Call.SeptRemove d gpa level) = unfold trees.septremove_plan trees.septremove_at lose subject left role_of given in
      on_live_fact (Call.SeptRemove d gpa level) d refl gpa level 1 _ (λ e k live.
      at_entry _ (tracked e k gpa level NL_BLOCKED NL_BLOCKED (omega arith)) (λ b i y x. x.entry) (λ b i x. check Fault.Remains 0 (omega arith) λ u.
      let some : ((view t).entry b i).state ≡ FREE → ⊥ = λ z. omega (arith, x.entry.state) in
      let m = entry_own st e b i k x.entry.spot some in
      let ty = m.kind ∙ table_type _ (le_antisymm x.entry.state.1 x.entry.state.0) in
      skip _ (lose_some e _ k.tdr (mine_belongs m))
      (take_turn st e k live b i x.entry.spot some _ (block_given a_table ty (omega arith)) (λ _. empty_at _ u))))
  plan_good (Call.FlushDone d) = unfold subject left role_of in
      life_good (Call.FlushDone d) d ASSIGNED CONFIGURED BLOCKED_LIFE (λ a b. omega arith) refl (λ n q. lives (omega arith))
  plan_good (Call.KeyFree d) = unfold subject left role_of on_option in
      life_good (Call.KeyFree d) d WRITTEN_BACK WRITTEN_BACK TEARDOWN (λ a b. omega arith) refl (λ n q. rw q (ends refl))
  plan_good (Call.Reclaim f) = unfold pages.reclaim_plan pages.reclaim_at subject left role_of given choose on_option on_result in
      on_frame_fact (Call.Reclaim f) f 0 _ (λ n q.
      choose_both (Good base t l (Call.Reclaim f)) _ _ _ (λ _. answers (mild_no Fault.Kind 0 (omega arith)))
      (λ e. choose_both (Good base t l (Call.Reclaim f)) _ _ _
      (λ e'. let k : kind (view t) n ≡ TDR = eqb-true _ _ e' in
      good {l' = Struck n} (frame n) (rw (q, e') refl) (rw q refl) (rw (domain_is_fact st (frame n) k) (tdr_turn n k)))
      (λ e'. let k : TDR < kind (view t) n = over n (eqb-false _ _ e) (eqb-false _ _ e') in let o = frame (owner (view t) n) in
      good {l' = Struck n} o (rw (q, e') refl) (rw q refl) (rw (domain_is_fact st o (st.ok.owners n k)) (child_turn n k)))))
  plan_good (Call.ReadPage f) = unfold pages.readpage_plan left role_of given in on_frame_fact (Call.ReadPage f) f 0 _ (λ n q.
      choose_both (Good base t l (Call.ReadPage f)) _ _ _ (λ _. reading refl) (λ _. reading refl))
  plan_good (Call.ReadEntry d gpa level) = unfold trees.readentry_plan trees.readentry_at subject left role_of given in
      on_live_fact (Call.ReadEntry d gpa level) d refl gpa level 0 _ (λ e k live.
      on_walk_fact (Turn base t l l e) (walk_good st e k gpa level top_level _ (λ b p. p)) _ _ _ (λ j i. says (mild_stop Fault.Walk j i (omega arith)))
      (λ z. absurd z)
      (λ b i sp. choose_both (Turn base t l l e) _ _ _ (λ _. reads refl) (λ _. reads refl)))
  plan_good (Call.CacheWb) = unfold left role_of in writes refl refl
