-- The nine lines of the paper's run, byte for byte.
use Rattle.base_rules.specs.Basics.{◌≡◌, List, [], ◌∷◌, ◌++◌, ℕ, ◌+◌, ◌/◌, ◌%◌, true, false, ltb, length}
use Rattle.base_rules.proofs.Facts.{refl, ltb-true, ltb-false}
use Rattle.std.specs.Prelude.{Some, None, Ok, Err}
use Prim.Native.String.{String}
use Rattle.book_ledger.specs.Tables.{Tables}
use Rattle.base_calls.specs.Answers.{Answer, values_of}
use Rattle.base_calls.specs.declared.{Call.Call, Fault.Fault, Reading.TheVariants.Done, Reading.TheVariants.Page, Refusal.TheVariants.No}
use Rattle.call_carry.specs.Carry.{carried}
use Rattle.call_host.specs.Calls.{plan_of, settled, rule_of}
use Rattle.base_numbers.specs.Number.{nought, decimal}
use Rattle.base_numbers.proofs.Decimals.{decimal_one, decimal_more}
use Rattle.door_script.specs.{Text.bytes, Lines.line_of}
use Rattle.door_answers.specs.Answers.{read_out, line_with, answer_line, unreadable_line}
use Rattle.door_session.specs.Session.{on_line, answered}
use Rattle.fact_cases.specs.{Cases.base, Cases.fresh_tables, Cases.run, Run.Spoken, Run.spoken, Run.heard, Run.Says, Run.AllSay, Run.whole_run}
use Rattle.fact_cases.proofs.{Right.past_13, Right.run_ok, Right.start, Open.call_open, Open.line_open}

-- calls, and others after them
run_append : (t : Tables) (cs ds : List Call) → run t (cs ++ ds) ≡ run (run t cs) ds
unfolding run
run_append t [] ds = refl
run_append t (c ∷ cs) ds = run_append (carried t (plan_of base t c)).tables cs ds

said : (n : ℕ) (before : List Call) (text answer : String) (c : Call) (a : Answer)
    → line_of (bytes text) ≡ Some c → length (run fresh_tables before).frames ≡ 1024
    → (carried (run fresh_tables before) (plan_of base (run fresh_tables before) c)).answer ≡ a → answer_line n a ≡ bytes answer
    → Says n before (spoken text (Some c) answer)
unfolding answered on_line rule_of settled heard run
said n before text answer c a r l e w = record {
  read = r;
  writes = λ g x y p. rw (r, past_13 (run fresh_tables before) g c l (run_ok fresh_tables start before) x y, e, w);
  leaves = λ g x y p. rw (r, past_13 (run fresh_tables before) g c l (run_ok fresh_tables start before) x y, run_append fresh_tables before (c ∷ []));
}

unread : (n : ℕ) (before : List Call) (text answer : String) → line_of (bytes text) ≡ None → unreadable_line n ≡ bytes answer
    → Says n before (spoken text None answer)
unfolding answered on_line heard run
unread n before text answer r w = record { read = r; writes = λ g x y p. rw (r, w); leaves = λ g x y p. rw (r, run_append fresh_tables before []) }

-- what line 8 reads out, digit by digit
digit : (n : ℕ) → ltb n 10 ≡ false → decimal n ≡ decimal (n / 10) ++ ((nought + n % 10) ∷ [])
digit n e = decimal_more n (ltb-false n 10 e)

last : (n : ℕ) → ltb n 10 ≡ true → decimal n ≡ (nought + n) ∷ []
last n e = decimal_one n (ltb-true n 10 e)

written_8 : answer_line 8 (Ok (Page 2 (record { 0 = 1073741824 }))) ≡ bytes "line\t8\tanswer\t0\ttype\t2\towner\t1073741824\n"
unfolding line_with read_out values_of
written_8 = simp (digit, last)

-- a line more
also : {n : ℕ} {before : List Call} {s : Spoken} {P : Type 0} → Says n before s → P → Says n before s × P
also a b = (a, b)

-- Every line of the paper's run is read, answers and leaves the tables as it says.
pub whole_run_fact : AllSay 1 [] whole_run
unfolding AllSay whole_run heard run call_open line_open
whole_run_fact =
    also (said 1 _ _ _ _ (Ok Done) refl refl refl refl) (
    also (said 2 _ _ _ _ (Err (No Fault.Key 1)) refl refl refl refl) (
    also (said 3 _ _ _ _ (Err (No Fault.Kind 0)) refl refl refl refl) (
    also (said 4 _ _ _ _ (Err (No Fault.Operand 0)) refl refl refl refl) (
    also (unread 5 _ _ _ refl refl) (
    also (said 6 _ _ _ _ (Ok Done) refl refl refl refl) (
    also (said 7 _ _ _ _ (Ok Done) refl refl refl refl) (
    also (said 8 _ _ _ _ (Ok (Page 2 (record { 0 = 1073741824 }))) refl refl refl written_8) (
    also (said 9 _ _ _ _ (Err (No Fault.Pages 0)) refl refl refl refl) tt))))))))
