-- Document 01, "Sizes, unit first": the limits, each once. Request 6 raised four of them: "16384 frames, 64 records, 256 tables and keys 32
-- to 95."
use Rattle.std.specs.Prelude.{count_ones, ℕ, ◌-◌, ◌%◌, ◌^◌, Bool, false, eqb, leb}
use Rattle.base_rules.specs.Basics.{need}
use Rattle.base_units.specs.declared.address.Hpa.{Hpa}

-- from `least` to `most`, both included
unfoldable pub between : ℕ → ℕ → ℕ → Bool
between least n most = need (leb least n) false (leb n most)

-- "Bytes in a frame: 4096."
abbrev pub frame_bytes : ℕ
frame_bytes = 4096

-- "Frames in the window: a power of two, 512 to" 16384: two to the exponents 9 to 14. A power of two has one one bit.
abbrev pub least_exponent : ℕ
least_exponent = 9

abbrev pub most_exponent : ℕ
most_exponent = 14

abbrev pub frames_least : ℕ
frames_least = 2 ^ least_exponent

abbrev pub frames_most : ℕ
frames_most = 2 ^ most_exponent

unfoldable pub frames_ok : ℕ → Bool
frames_ok n = need (eqb (count_ones n) 1) false (between frames_least n frames_most)

-- "Window base: bytes, a multiple of 2^30 (a TDMR is aligned on 1 GB), from 2^30 to 2^46."
unfoldable pub base_ok : Hpa → Bool
base_ok base = need (eqb (base.0 % 2 ^ 30) 0) false (between (2 ^ 30) base.0 (2 ^ 46))

-- "Domain records in stock: 1 to" 64. "Secure EPT tables in stock: 4 to" 256, "each 512 entries."
abbrev pub records_least : ℕ
records_least = 1

abbrev pub records_most : ℕ
records_most = 64

abbrev pub records_ok : ℕ → Bool
records_ok n = between records_least n records_most

abbrev pub tables_least : ℕ
tables_least = 4

abbrev pub tables_most : ℕ
tables_most = 256

abbrev pub tables_ok : ℕ → Bool
tables_ok n = between tables_least n tables_most

abbrev pub table_entries : ℕ
table_entries = 512

-- "Keys (HKID): 32 to" 95. "Control pages (TDCX) of a domain: 4."
abbrev pub key_least : ℕ
key_least = 32

abbrev pub key_most : ℕ
key_most = 95

abbrev pub key_ok : ℕ → Bool
key_ok k = between key_least k key_most

abbrev pub control_pages : ℕ
control_pages = 4

-- the words of a lent domain record: one of scalars, and one for each control page
abbrev pub record_words : ℕ
record_words = 5

-- "gpa: bytes, below 2^47"
abbrev pub gpa_end : ℕ
gpa_end = 2 ^ 47

-- "Epoch: 1 to 2^32 - 1."
abbrev pub epoch_least : ℕ
epoch_least = 1

abbrev pub epoch_most : ℕ
epoch_most = 2 ^ 32 - 1

abbrev pub epoch_ok : ℕ → Bool
epoch_ok e = between epoch_least e epoch_most
