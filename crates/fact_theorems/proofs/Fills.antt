-- After an accepted call the stored fill is, bit for bit, the frames that aren't NDA divided by the frames.
use Rattle.base_rules.specs.Basics.{◌≡◌, true, ℕ, ◌^◌, ◌≤◌, length, choose, given}
use Rattle.base_rules.proofs.Facts.{refl, arith, eq-eqb, both_left, both_right}
use lib.Ieee.{binary64, to_bits}
use Rattle.base_units.specs.{Limits.frames_ok, declared.address.Hpa.Hpa}
use Rattle.book_gauge.specs.{Fill.ratio_bits, declared.Gauge.Gauge}
use Rattle.book_gauge.proofs.{Bits.filled, Power.frames_power}
use Rattle.book_ledger.specs.{Count.used_frames, Sizes.sizes_of, Sizes.sizes_ok, Tables.Tables}
use Rattle.book_range.specs.Range.{lent_ok}
use Rattle.base_calls.specs.{Answers.values_of, declared.Call.Call}
use Rattle.call_host.specs.Calls.{Outcome, rule_of, call_of, settled, gauge_after}
use Rattle.fact_keeps.proofs.{Used.used_most, Keeps.rule_keeps}
use Rattle.fact_ownership.specs.Reached.{Accepted}
use Rattle.fact_theorems.proofs.Answers.{by_call}

pub record Exact (o : Outcome) : Type 0 where
  -- the count never exceeds the frames, and these are a power of two
  pub few : used_frames o.tables.frames ≤ length o.tables.frames
  pub exponent : ℕ
  pub power : length o.tables.frames ≡ 2 ^ exponent
  pub bits : to_bits binary64 o.gauge.fill ≡ ratio_bits (used_frames o.tables.frames) exponent

frames_right : (base : Hpa) (t : Tables) → lent_ok base t ≡ true → frames_ok (length t.frames) ≡ true
unfolding lent_ok sizes_ok sizes_of given
frames_right base t ok = both_left _ _ (both_right _ _ (both_left _ _ ok))

by_rule : (base : Hpa) (t : Tables) (g : Gauge) (c : Call) → lent_ok base t ≡ true → Accepted (rule_of base t g c) → Exact (rule_of base t g c)
unfolding rule_of settled gauge_after given choose
by_rule base t g c ok a =
    let o = rule_of base t g c in let n = used_frames o.tables.frames in let m = length o.tables.frames in
    let few = used_most o.tables.frames in let p = frames_power m (frames_right base o.tables (rule_keeps base t ok g c)) in
    let bits = (filled n m o.gauge.fill (rw (eq-eqb _ 0 a) refl)).bits p.0 (omega (arith, p.2)) p.3 few in
    record { few = few; exponent = p.0; power = p.3; bits = bits }

pub fill_exact : (base : Hpa) (t : Tables) (g : Gauge) (c : Call) → Accepted (call_of base t g c) → Exact (call_of base t g c)
unfolding values_of
fill_exact base t g c = by_call (λ (o : Outcome). Accepted o → Exact o) base t g c (by_rule base t g c) λ a. absurd (omega arith)
