-- Document 01, "The script": a line of the output is a row of words and numbers, parted by tabs.
use Rattle.std.specs.Prelude.{ℕ, ◌+◌, Bool, List, [], ◌∷◌, ◌++◌, Ok, Err, ltb, length, set}
use Rattle.base_rules.specs.Basics.{choose}
use Rattle.base_units.specs.{Limits.frame_bytes, declared.address.Hpa.Hpa}
use Rattle.base_calls.specs.Answers.{Answer, number_of}
use Rattle.base_calls.specs.declared.Reading.{TheVariants.Done, TheVariants.Page, TheVariants.Entry}
use Rattle.base_calls.specs.declared.Refusal.{TheVariants.No, TheVariants.Stop}
use Rattle.door_answers.specs.declared.Pen.{Pen as Held}
use Rattle.door_script.specs.Text.{bytes, lf}
use Rattle.base_numbers.specs.Number.{decimal}

-- a buffer, and how much of it is written
pub record Pen : Type 0 where
  pub buffer : List ℕ
  pub at : ℕ

abbrev pub pen : List ℕ → ℕ → Pen
pen b n = record { buffer = b; at = n }

-- the same, as the code holds it
abbrev pub held : Held → Pen
held p = pen p.out.now p.at

-- a byte is written where there is room for it
unfoldable pub wrote_byte : ℕ → Pen → Pen
wrote_byte b p = choose (ltb p.at (length p.buffer)) (pen (set p.buffer p.at b) (p.at + 1)) p

unfoldable pub wrote : List ℕ → Pen → Pen
wrote [] p = p
wrote (b ∷ bs) p = wrote bs (wrote_byte b p)

-- a word and a number
abbrev pub pair : List ℕ → ℕ → List ℕ
pair word n = word ++ decimal n

abbrev pub pairs : List ℕ → ℕ → List ℕ → ℕ → List ℕ
pairs v m w n = pair v m ++ pair w n

abbrev pub level_state : ℕ → ℕ → List ℕ
level_state level state = pairs (bytes "\tlevel\t") level (bytes "\tstate\t") state

abbrev pub type_owner : ℕ → Hpa → List ℕ
type_owner type owner = pairs (bytes "\ttype\t") type (bytes "\towner\t") owner.0

abbrev pub level_state_hpa : ℕ → ℕ → Hpa → List ℕ
level_state_hpa level state hpa = level_state level state ++ pair (bytes "\thpa\t") hpa.0

-- "Answers 6 and 7 add level and state; an accepted readentry adds level, state, hpa"; "line 8 answer 0 type 2 owner 1073741824"
unfoldable pub read_out : Answer → List ℕ
read_out (Ok Done) = []
read_out (Ok (Page type owner)) = type_owner type owner
read_out (Ok (Entry level state hpa)) = level_state_hpa level state hpa
read_out (Err (No fault operand)) = []
read_out (Err (Stop fault level state)) = level_state level state

-- "line N answer A", and what the answer reads out
unfoldable pub line_with : ℕ → ℕ → Answer → List ℕ
line_with line number a = pairs (bytes "line\t") line (bytes "\tanswer\t") number ++ (read_out a ++ (lf ∷ []))

abbrev pub answer_line : ℕ → Answer → List ℕ
answer_line line a = line_with line (number_of a) a

-- "15: script line unreadable"
abbrev pub unreadable_line : ℕ → List ℕ
unreadable_line line = line_with line 15 (Ok Done)

unfoldable pub pairs_line : List ℕ → ℕ → List ℕ → ℕ → List ℕ
pairs_line v m w n = pairs v m w n ++ (lf ∷ [])

-- "bytes 4096 frames 1024"
abbrev pub first_line : ℕ → List ℕ
first_line frames = pairs_line (bytes "bytes\t") frame_bytes (bytes "\tframes\t") frames

-- "used 2 lamp 0"
abbrev pub lamp_number : Bool → ℕ
lamp_number lamp = choose lamp 1 0

abbrev pub last_line : ℕ → Bool → List ℕ
last_line used lamp = pairs_line (bytes "used\t") used (bytes "\tlamp\t") (lamp_number lamp)
