-- Packing and unpacking are inverses: every word is some record's, and a record that fits its bits comes back.
use Rattle.base_rules.specs.Basics.{◌≡◌, ℕ, ◌+◌, ◌*◌, ◌/◌, ◌%◌, ◌^◌, ◌<◌}
use Rattle.base_rules.proofs.Facts.{refl, mod-mod, mod-add-div, arith}
use Rattle.book_ledger.specs.declared.words.{Frame.Frame, Domain.Domain, Entry.Entry}
use Rattle.book_ledger.specs.Words.{frame_from, frame_word, FrameFits, domain_from, domain_word, DomainFits, entry_from, entry_word, EntryFits}

-- one field of a word: the rest of the word is the quotient q
field : (a w : ℕ) {q r : ℕ} → r ≡ q → w / a ≡ q → w % a % a + a * r ≡ w
field a w g e = rw (g, ← e, mod-mod) (mod-add-div w a)

pub frame_whole : (w : ℕ) → w < 2 ^ 64 → frame_word (frame_from w) ≡ w
frame_whole w h =
    field 8 w (field 16384 (w / 8) (field 256 (w / 131072)
    (field 4294967296 (w / 33554432) {q = w / 144115188075855872} (omega arith) (omega arith)) (omega arith)) (omega arith)) refl

pub domain_whole : (w : ℕ) → w < 2 ^ 64 → domain_word (domain_from w) ≡ w
domain_whole w h =
    field 128 w (field 8 (w / 128) (field 4 (w / 1024) (field 8 (w / 4096) (field 32768 (w / 32768)
    (field 4294967296 (w / 1073741824) {q = w / 4611686018427387904} (omega arith) (omega arith))
    (omega arith)) (omega arith)) (omega arith)) (omega arith)) refl

pub entry_whole : (w : ℕ) → w < 2 ^ 32 → entry_word (entry_from w) ≡ w
entry_whole w h = omega arith

frame_eq : (f g : Frame) → f.kind ≡ g.kind → f.owner.0 ≡ g.owner.0 → f.number ≡ g.number → f.epoch ≡ g.epoch → f.size ≡ g.size → f ≡ g
frame_eq f g p q r s t = λ i. record { kind = p i; owner = record { 0 = q i }; number = r i; epoch = s i; size = t i }

pub frame_back : (f : Frame) → FrameFits f → frame_from (frame_word f) ≡ f
frame_back f h = frame_eq _ f (omega arith) (omega arith) (omega arith) (omega arith) (omega arith)

domain_eq : (d e : Domain) → d.key ≡ e.key → d.life ≡ e.life → d.op ≡ e.op → d.listed ≡ e.listed → d.children ≡ e.children
    → d.epoch ≡ e.epoch → d.width ≡ e.width → d ≡ e
domain_eq d e p q r s t u v = λ i. record { key = p i; life = q i; op = r i; listed = s i; children = t i; epoch = u i; width = v i }

pub domain_back : (d : Domain) → DomainFits d → domain_from (domain_word d) ≡ d
domain_back d h = domain_eq _ d (omega arith) (omega arith) (omega arith) (omega arith) (omega arith) (omega arith) (omega arith)

entry_eq : (e f : Entry) → e.state ≡ f.state → e.frame.0 ≡ f.frame.0 → e ≡ f
entry_eq e f p q = λ i. record { state = p i; frame = record { 0 = q i } }

pub entry_back : (e : Entry) → EntryFits e → entry_from (entry_word e) ≡ e
entry_back e h = entry_eq _ e (omega arith) (omega arith)
