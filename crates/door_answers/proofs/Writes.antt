-- Writing: one text after another, and a turn of the loop over a text's bytes.
use mir.Val.{bool_byte}
use Rattle.base_rules.specs.Basics.{◌≡◌, Bool, true, false, List, [], ◌∷◌, ◌++◌, ℕ, ◌+◌, ◌/◌, ◌%◌, ◌<◌, ◌≤◌, min, length, get_or, take, drop, choose}
use Rattle.base_rules.proofs.Facts.{refl, ◌∙◌, append-nil, append_assoc, arith, lt-ltb, le-ltb, drop_of_length-le, length-append, set-append_seam}
use Rattle.base_rules.proofs.Facts.{take-nil, drop-nil}
use Rattle.door_answers.specs.Answers.{Pen, pen, held, wrote_byte, wrote, lamp_number}
use Rattle.door_answers.specs.declared.Pen.{Pen as Held}
use Rattle.base_numbers.specs.Number.{nought, decimal}
use Rattle.base_numbers.proofs.{Lists.next, Decimals.decimal_one, Decimals.decimal_more}

wrote_append : (a b : List ℕ) (p : Pen) → wrote (a ++ b) p ≡ wrote b (wrote a p)
unfolding wrote
wrote_append [] b p = refl
wrote_append (x ∷ a) b p = wrote_append a b (wrote_byte x p)

pub wrote_none : {p q : Pen} → q ≡ p → q ≡ wrote [] p
unfolding wrote
wrote_none e = e

pub wrote_byte_fact : (p : Pen) {q : Pen} (b : ℕ) → q ≡ wrote_byte b p → q ≡ wrote (b ∷ []) p
unfolding wrote
wrote_byte_fact p b f = f

-- a callee's pen m, then another's
module _ (p : Pen) {q : Pen} where
  pub wrote_then : {m : Pen} (a b : List ℕ) → m ≡ wrote a p → q ≡ wrote b m → q ≡ wrote (a ++ b) p
  wrote_then a b e f = rw (wrote_append, ← e) f

  pub number_one : {m : Pen} (n : ℕ) → n < 10 → m ≡ p → q ≡ wrote_byte (nought + n % 10) m → q ≡ wrote (decimal n) p
  number_one n h e f = let d : n % 10 ≡ n = omega arith in rw (decimal_one n h) (rw (d, e) at (wrote_byte_fact _ _ f))

  pub number_more : {m : Pen} (n : ℕ) → 10 ≤ n → m ≡ wrote (decimal (n / 10)) p → q ≡ wrote_byte (nought + n % 10) m → q ≡ wrote (decimal n) p
  number_more {m} n h e f = rw (decimal_more n h) (wrote_then _ _ e (wrote_byte_fact m _ f))

-- the library's number of a lamp
pub lit : (lamp : Bool) → bool_byte lamp ≡ lamp_number lamp
unfolding choose
lit true = refl
lit false = refl

pub ruleset writes = (wrote_then, wrote_none, wrote_byte_fact)

-- what the loop keeps at i: the bytes still to write, from the pen as it is now
pub record Writing (text : List ℕ) (old now : Held) (i : ℕ) : Type 0 where
  pub place : now.out.ghost_name ≡ old.out.ghost_name
  pub left : wrote text (held old) ≡ wrote (drop i text) (held now)

module _ {text : List ℕ} {old now : Held} {i : ℕ} (w : Writing text old now i) where
  pub writing_more : {done : Held} → i < length text → done.out.ghost_name ≡ now.out.ghost_name → held done ≡ wrote_byte (get_or text i 0) (held now)
      → Writing text old done (i + 1)
  unfolding wrote
  writing_more h l e = record { place = l ∙ w.place; left = rw (w.left, next text i h, e) }

  pub writing_end : length text ≤ i → held now ≡ wrote text (held old)
  unfolding wrote
  writing_end h = rw (w.left, drop_of_length-le text h)

same : {a b : List ℕ} {m n : ℕ} → a ≡ b → m ≡ n → pen a m ≡ pen b n
same e f = rw (e, f)

-- what is done, and the buffer behind it: a byte finds no room there, or takes the place of the first
laid : (text done rest : List ℕ)
    → wrote text (pen (done ++ rest) (length done))
    ≡ pen (done ++ (take (length rest) text ++ drop (length text) rest)) (length done + min (length text) (length rest))
unfolding wrote wrote_byte choose
laid [] done rest = same (rw take-nil) (omega arith)
laid (b ∷ text) done [] =
    rw (append-nil, le-ltb (length done) (length done) (omega arith)) (simp (append-nil, drop-nil) at (laid text done []) ∙ same refl (omega arith))
laid (b ∷ text) done (x ∷ rest) =
    let h : length done < length (done ++ (x ∷ rest)) = omega (arith, length-append done (x ∷ rest)) in
    rw (lt-ltb _ _ h, set-append_seam) (simp (append_assoc, length-append) at (laid text (done ++ (b ∷ [])) rest) ∙ same refl (omega arith))

-- for readers: a text in front of what the buffer held, cut where the buffer ends
pub written : (text xs : List ℕ) → wrote text (pen xs 0) ≡ pen (take (length xs) text ++ drop (length text) xs) (min (length text) (length xs))
written text xs = laid text [] xs ∙ same refl (omega arith)
