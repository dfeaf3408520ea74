-- What a record's scalars, an operand and a frame outside the window are: for all calls.
use Rattle.base_rules.specs.Basics.{◌≡◌, true, ℕ, ◌<◌, ◌≤◌, length}
use Rattle.base_rules.proofs.Facts.{ap, arith, by_lt}
use Rattle.base_units.specs.Limits.{between, control_pages, key_least, key_most, epoch_least, epoch_most}
use Rattle.book_ledger.specs.{Codes.WRITTEN_BACK, Codes.RUNNABLE, Codes.NDA, Tables.Tables, Words.DomainFits}
use Rattle.book_range.specs.Range.{domain_ok}
use Rattle.book_ledger.specs.declared.words.{Frame.Frame, Domain.Domain}
use Rattle.fact_keeps.specs.Views.{kind, frame, view}
use Rattle.fact_keeps.proofs.Ranged.{Sized, passed}
use Rattle.book_ledger.proofs.Outside.{frame_out}

-- ---- a domain's scalars

pub record DomainGood (frames : ℕ) (d : Domain) : Type 0 where
  pub key : (key_least ≤ d.key) × (d.key ≤ key_most)
  pub life : d.life ≤ WRITTEN_BACK
  pub op : d.op ≤ RUNNABLE
  pub listed : d.listed ≤ control_pages
  pub children : d.children ≤ frames
  pub epoch : (epoch_least ≤ d.epoch) × (d.epoch ≤ epoch_most)
  pub width : d.width ≡ 0

pub domain_good : (n : ℕ) (d : Domain) → domain_ok n d ≡ true → DomainGood n d
unfolding domain_ok between
domain_good n d e = let w = simp passed at e in search

pub good_domain : (n : ℕ) (d : Domain) → DomainGood n d → domain_ok n d ≡ true
unfolding domain_ok between
good_domain n d g = simp passed (search)

pub domain_fits : {t : Tables} → Sized t → (d : Domain) → DomainGood (length t.frames) d → DomainFits d
domain_fits z d g = omega arith

-- ---- frames

-- a frame that isn't free is one of the window's
pub in_window_fact : (t : Tables) (f : ℕ) → (kind (view t) f ≡ NDA → ⊥) → f < length t.frames
in_window_fact t f k = by_lt f (length t.frames) (λ h. h) (λ h. absurd (k (ap (λ (x : Frame). x.kind) (frame_out t.frames (frame f) h))))
