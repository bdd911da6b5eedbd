-- What is still to be printed, for what is held and all input that is still to come; and that no turn changes it.
use Prim.Native.Nat.{ℕ, zero, suc, ◌+◌, ◌-◌}
use mathlib.Core.Bool.{Bool, true, false, cond, true≢false, false≢true}
use mathlib.Core.List.{List, [], ◌∷◌, ◌++◌, append_assoc, append-nil}
use mathlib.Core.Path.{◌≡◌, refl, sym, ap, ◌∙◌}
use native.Mathlib.Omega.{arith}
use borrow.Author.Tests.{eqb-true}
use lib.ListN.{drop}
use Rattle.sizes.specs.Sizes.{most_records}
use Rattle.refusal.specs.Answers.{Answer, accepted, refused}
use Rattle.fields.specs.Bytes.{number32}
use Rattle.state.specs.States.{State}
use Rattle.table_input.specs.Start.{table_part, empty_state, input_answer}
use Rattle.lines.specs.Printed.{refusal_line}
use Rattle.program.specs.Records.{Printed, record_printed}
use Rattle.program.specs.Program.{record_bytes, rest_after, records_text, run_text, program}
use Rattle.program_run.specs.Machine.{Held, first, table_held, record_held, none_left, ended, written, table_answered, record_answered, stopped, records_answered, answered, given, closed}
use Rattle.program_run.proofs.HeldLaws.{Ready, TableWhole, RecordWhole, table-whole, record-whole, nothing-held}

-- what a table and so many records after it print
unfoldable pub table_text : ℕ → List ℕ → Answer State → List ℕ
table_text left input (accepted s) = records_text left (table_part input) (drop (number32 input 0 + 4) input) s
table_text left input (refused n) = refusal_line 0 n

-- what this input prints, after the table or from it on
unfoldable pub input_text : Bool → ℕ → List ℕ → State → List ℕ → List ℕ
input_text judged left table s input =
    cond judged (records_text left table input s) (table_text left input (input_answer input s))

-- the text that is not handed over yet, and what the unused input and all input after it print
unfoldable pub to_print : Held → List ℕ → List ℕ
to_print h more = h.text ++ input_text h.judged h.left h.table h.state (h.unused ++ more)

-- ---- at the start and at the end

run-text : (input : List ℕ) (answer : Answer State) → run_text input answer ≡ table_text most_records input answer
unfolding run_text table_text
run-text input (accepted s) = refl
run-text input (refused n) = refl

pub first-to-print : (input : List ℕ) → to_print first input ≡ program input
unfolding to_print input_text first program
first-to-print input = sym (run-text input (input_answer input empty_state))

none_left_lem : (judged : Bool) (left : ℕ) (table : List ℕ) (s : State) (input : List ℕ)
    → none_left judged left ≡ true
    → input_text judged left table s input ≡ []
unfolding none_left input_text records_text
none_left_lem true left table s input h = rw (eqb-true left 0 h)
none_left_lem false left table s input h = absurd (false≢true h)

pub end-to-print : (h : Held) (more : List ℕ) → h.text ≡ [] → ended h ≡ true → to_print h more ≡ []
unfolding to_print ended
end-to-print h more e k = rw e (none_left_lem h.judged h.left h.table h.state (h.unused ++ more) k)

-- ---- text that is written, and input that comes

pub written-to-print : (h : Held) (more : List ℕ) → h.text ++ to_print (written h) more ≡ to_print h more
unfolding to_print written
written-to-print h more = refl

pub given-to-print : (h : Held) (piece more : List ℕ) → to_print (given h piece) more ≡ to_print h (piece ++ more)
unfolding to_print given
given-to-print h piece more = rw (append_assoc h.unused piece more)

pub closed-to-print : (h : Held) (more : List ℕ) → to_print (closed h) more ≡ to_print h more
unfolding to_print closed
closed-to-print h more = refl

-- ---- an answer

-- what is held, by its parts
abbrev held : Bool → List ℕ → Bool → ℕ → List ℕ → State → List ℕ → Held
held judged unused over left table s text =
    record { judged = judged; unused = unused; over = over; left = left; table = table; state = s; text = text }

-- the table's
table-to-print :
    (h : Held) (more : List ℕ) (answer : Answer State)
    → TableWhole h.unused more
    → input_answer h.unused h.state ≡ answer
    → h.text ++ table_text h.left (h.unused ++ more) answer ≡ to_print (table_answered h answer) more
unfolding to_print input_text table_text table_answered records_text
table-to-print h more (accepted s) w e = rw (w.part h.state s e, w.rest h.state s e)
table-to-print h more (refused n) w e = sym (append-nil (h.text ++ refusal_line 0 n))

table-first :
    (unused : List ℕ) (over : Bool) (left : ℕ) (table : List ℕ) (s : State) (text more : List ℕ)
    → TableWhole unused more
    → to_print (held false unused over left table s text) more
    ≡ to_print (table_answered (held false unused over left table s text) (input_answer unused s)) more
unfolding to_print input_text
table-first unused over left table s text more w =
    rw (w.answer s) (table-to-print (held false unused over left table s text) more (input_answer unused s) w refl)

-- a record's: its text, and that of the records after it, or nothing
unfoldable record_text : ℕ → List ℕ → List ℕ → Printed → List ℕ
record_text left table rest p = p.text ++ elim p.ended [ true ↦ [] | false ↦ records_text left table rest p.state ]

record-first :
    (left : ℕ) (table : List ℕ) (b : ℕ) (rest : List ℕ) (s : State)
    → records_text (suc left) table (b ∷ rest) s
    ≡ record_text left table (rest_after (b ∷ rest)) (record_printed table (record_bytes (b ∷ rest)) s)
unfolding records_text record_text
record-first left table b rest s = refl

after-record :
    (over : Bool) (left : ℕ) (table rest : List ℕ) (s : State)
    → elim over [ true ↦ [] | false ↦ records_text left table rest s ] ≡ records_text (cond over 0 (suc left - 1)) table rest s
unfolding records_text
after-record true left table rest s = refl
after-record false left table rest s =
    let one : left ≡ suc left - 1 = omega arith in ap (λ (k : ℕ). records_text k table rest s) one

record-text :
    (left : ℕ) (table rest : List ℕ) (p : Printed)
    → record_text left table rest p ≡ p.text ++ records_text (cond p.ended 0 (suc left - 1)) table rest p.state
unfolding record_text
record-text left table rest p = ap (λ (l : List ℕ). p.text ++ l) (after-record p.ended left table rest p.state)

one-record :
    (left : ℕ) (table : List ℕ) (b : ℕ) (rest more : List ℕ) (s : State)
    → RecordWhole (b ∷ rest) more
    → records_text (suc left) table (b ∷ rest ++ more) s
    ≡ record_text left table (rest_after (b ∷ rest) ++ more) (record_printed table (record_bytes (b ∷ rest)) s)
one-record left table b rest more s w = record-first left table b (rest ++ more) s ∙ rw (w.same, w.rest)

record-to-print :
    (unused : List ℕ) (over : Bool) (left : ℕ) (table : List ℕ) (s : State) (text more : List ℕ)
    → none_left true left ≡ false
    → Ready (record_held unused) more
    → to_print (held true unused over left table s text) more
    ≡ to_print (records_answered (held true unused over left table s text) unused) more
unfolding to_print input_text records_answered record_answered stopped records_text none_left
record-to-print unused over zero table s text more n r = absurd (true≢false n)
record-to-print [] over (suc left) table s text more n r = rw (nothing-held more r)
record-to-print (b ∷ rest) over (suc left) table s text more n r =
    let p = record_printed table (record_bytes (b ∷ rest)) s in
    ap (λ (l : List ℕ). text ++ l)
    (one-record left table b rest more s (record-whole (b ∷ rest) more r) ∙ record-text left table (rest_after (b ∷ rest) ++ more) p)
    ∙ sym (append_assoc text p.text _)

answer-held :
    (judged : Bool) (unused : List ℕ) (over : Bool) (left : ℕ) (table : List ℕ) (s : State) (text more : List ℕ)
    → none_left judged left ≡ false
    → Ready (cond judged (record_held unused) (table_held unused)) more
    → to_print (held judged unused over left table s text) more ≡ to_print (answered (held judged unused over left table s text)) more
unfolding answered
answer-held true unused over left table s text more n r = record-to-print unused over left table s text more n r
answer-held false unused over left table s text more n r =
    table-first unused over left table s text more (table-whole unused more r)

pub answer-to-print :
    (h : Held) (more : List ℕ)
    → ended h ≡ false
    → Ready (cond h.judged (record_held h.unused) (table_held h.unused)) more
    → to_print h more ≡ to_print (answered h) more
unfolding ended
answer-to-print h more n r =
    answer-held h.judged h.unused h.over h.left h.table h.state h.text more n r
