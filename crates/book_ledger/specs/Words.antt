-- The bits of the lent words (docs/TABLES.md): a record of the paper as one word, and back. Packing cuts each number to its
-- bits, so it is total; the topmost field of a word takes all the bits that are left, so that nothing of a word is lost.
use Rattle.std.specs.Prelude.{ℕ, ◌+◌, ◌*◌, ◌/◌, ◌%◌, ◌^◌, ◌<◌}
use Rattle.book_ledger.specs.declared.words.{Frame.Frame, Domain.Domain, Entry.Entry}

-- a frame: kind in bits 0 to 2, owner in 3 to 16, number in 17 to 24, epoch in 25 to 56, size from 57 up
abbrev pub frame_from : ℕ → Frame
frame_from w = record {
  kind = w % 2 ^ 3;
  owner = record { 0 = w / 2 ^ 3 % 2 ^ 14 };
  number = w / 2 ^ 17 % 2 ^ 8;
  epoch = w / 2 ^ 25 % 2 ^ 32;
  size = w / 2 ^ 57;
}

abbrev pub frame_word : Frame → ℕ
frame_word f =
    f.kind % 2 ^ 3
    + 2 ^ 3
    * (f.owner.0 % 2 ^ 14 + 2 ^ 14 * (f.number % 2 ^ 8 + 2 ^ 8 * (f.epoch % 2 ^ 32 + 2 ^ 32 * (f.size % 2 ^ 7))))

pub record FrameFits (f : Frame) : Type 0 where
  pub kind : f.kind < 2 ^ 3
  pub owner : f.owner.0 < 2 ^ 14
  pub number : f.number < 2 ^ 8
  pub epoch : f.epoch < 2 ^ 32
  pub size : f.size < 2 ^ 7

-- a domain's scalars: key in bits 0 to 6, lifecycle in 7 to 9, op state in 10 and 11, pages listed in 12 to 14, children in 15 to 29,
-- epoch in 30 to 61, width from 62 up
abbrev pub domain_from : ℕ → Domain
domain_from w = record {
  key = w % 2 ^ 7;
  life = w / 2 ^ 7 % 2 ^ 3;
  op = w / 2 ^ 10 % 2 ^ 2;
  listed = w / 2 ^ 12 % 2 ^ 3;
  children = w / 2 ^ 15 % 2 ^ 15;
  epoch = w / 2 ^ 30 % 2 ^ 32;
  width = w / 2 ^ 62;
}

abbrev pub domain_word : Domain → ℕ
domain_word d =
    d.key % 2 ^ 7
    + 2 ^ 7
    * (d.life % 2 ^ 3
    + 2 ^ 3
    * (d.op % 2 ^ 2
    + 2 ^ 2
    * (d.listed % 2 ^ 3 + 2 ^ 3 * (d.children % 2 ^ 15 + 2 ^ 15 * (d.epoch % 2 ^ 32 + 2 ^ 32 * (d.width % 2 ^ 2))))))

pub record DomainFits (d : Domain) : Type 0 where
  pub key : d.key < 2 ^ 7
  pub life : d.life < 2 ^ 3
  pub op : d.op < 2 ^ 2
  pub listed : d.listed < 2 ^ 3
  pub children : d.children < 2 ^ 15
  pub epoch : d.epoch < 2 ^ 32
  pub width : d.width < 2 ^ 2

-- an entry: state in bits 0 to 2, frame from 3 up
abbrev pub entry_from : ℕ → Entry
entry_from w = record { state = w % 2 ^ 3; frame = record { 0 = w / 2 ^ 3 } }

abbrev pub entry_word : Entry → ℕ
entry_word e = e.state % 2 ^ 3 + 2 ^ 3 * (e.frame.0 % 2 ^ 29)

pub record EntryFits (e : Entry) : Type 0 where
  pub state : e.state < 2 ^ 3
  pub frame : e.frame.0 < 2 ^ 29
