-- Document 01, the program, one thing after the other: what it holds, what it does next, and what it holds then. That this prints
-- what `program` says is proved (`proofs/Theorem.antt`); what is left to be believed is in `Pieces.antt`.
use Rattle.std.specs.Prelude.{ℕ, ◌+◌, ◌-◌, Bool, true, false, not, cond, List, [], ◌∷◌, ◌++◌, leb, ltb, eqb, length, drop}
use Rattle.sizes.specs.Sizes.{most_records, table_bytes, text_bytes, text_buffer}
use Rattle.refusal.specs.Answers.{Answer, accepted, refused}
use Rattle.fields.specs.Bytes.{number16, number32}
use Rattle.state.specs.States.{State}
use Rattle.table_input.specs.Start.{table_part, empty_state, input_answer}
use Rattle.lines.specs.Printed.{refusal_line}
use Rattle.program.specs.Records.{Printed, record_printed}
use Rattle.program.specs.Program.{record_bytes, rest_after}

-- what the program holds: whether the table has been judged, the input that is read and not used yet, whether the input has ended,
-- how many records are left to be answered, the accepted table, the river's state, and the text that is not handed over yet
pub record Held : Type 0 where
  pub judged : Bool
  pub unused : List ℕ
  pub over : Bool
  pub left : ℕ
  pub table : List ℕ
  pub state : State
  pub text : List ℕ

-- before the first byte
unfoldable pub first : Held
first =
    record { judged = false; unused = []; over = false; left = most_records; table = []; state = empty_state; text = [] }

-- ---- what comes next

-- "a table, then records, each by its length field": whether all bytes of the table are there, or its length alone where it is
-- too long
unfoldable pub table_held : List ℕ → Bool
table_held bytes =
    cond (leb 4 (length bytes)) (cond (ltb table_bytes (number32 bytes 0 + 4)) true (leb (number32 bytes 0 + 4) (length bytes))) false

-- and all bytes of a record
unfoldable pub record_held : List ℕ → Bool
record_held bytes = leb (number16 bytes 0 + 2) (length bytes)

-- more input is needed before the table or the next record can be answered
unfoldable pub lacking : Bool → Bool → List ℕ → Bool
lacking judged over unused = cond over false (cond judged (not (record_held unused)) (not (table_held unused)))

unfoldable pub wants_more : Held → Bool
wants_more h = lacking h.judged h.over h.unused

-- no record is left to be answered
unfoldable pub none_left : Bool → ℕ → Bool
none_left judged left = cond judged (eqb left 0) false

unfoldable pub ended : Held → Bool
ended h = none_left h.judged h.left

-- so much text goes out before the program ends or waits for input, and where there is no room for a record's text after it
unfoldable pub goes_out : Bool → Bool → ℕ → Bool
goes_out ended wants size = cond (eqb size 0) false (cond ended true (cond wants true (ltb (text_buffer - text_bytes) size)))

unfoldable pub text_due : Held → Bool
text_due h = goes_out (ended h) (wants_more h) (length h.text)

-- the next thing: text is handed over, the run ends, input is asked for, or the table or a record is answered
pub data Next : Type 0 where
  write : List ℕ → Next
  end : Next
  read : Next
  answer : Next

unfoldable pub next : Held → Next
next h = cond (text_due h) (write h.text) (cond (ended h) end (cond (wants_more h) read answer))

-- ---- what it leaves

unfoldable pub written : Held → Held
written h = record h { text = [] }

-- the table is answered: the records after it are left, or nothing after its refusal
unfoldable pub table_answered : Held → Answer State → Held
table_answered h (accepted s) =
    record h { judged = true; unused = drop (number32 h.unused 0 + 4) h.unused; table = table_part h.unused; state = s }
table_answered h (refused n) = record h { judged = true; left = 0; text = h.text ++ refusal_line 0 n }

-- a record is answered: one less is left, or none
unfoldable pub record_answered : Held → Printed → Held
record_answered h p =
    record h {
      unused = rest_after h.unused;
      left = cond p.ended 0 (h.left - 1);
      state = p.state;
      text = h.text ++ p.text;
    }

-- "input that stops before a record's first byte ends the run with nothing more printed"
unfoldable pub stopped : Held → Held
stopped h = record h { left = 0 }

unfoldable pub records_answered : Held → List ℕ → Held
records_answered h [] = stopped h
records_answered h (b ∷ rest) = record_answered h (record_printed h.table (record_bytes (b ∷ rest)) h.state)

unfoldable pub answered : Held → Held
answered h = cond h.judged (records_answered h h.unused) (table_answered h (input_answer h.unused h.state))

-- what is held after the next thing
unfoldable pub after_next : Next → Held → Held
after_next (write text) h = written h
after_next end h = h
after_next read h = h
after_next answer h = answered h

-- ---- what input adds

unfoldable pub given : Held → List ℕ → Held
given h piece = record h { unused = h.unused ++ piece }

unfoldable pub closed : Held → Held
closed h = record h { over = true }
