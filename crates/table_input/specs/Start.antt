-- Document 01, the program: a start on the table that its input begins with.
use Rattle.std.specs.Prelude.{ℕ, ◌+◌, List, leb, take, replicate}
use Rattle.sizes.specs.Sizes.{state_numbers, table_bytes}
use Rattle.refusal.specs.Answers.{Answer, rule}
use Rattle.fields.specs.Bytes.{number32}
use Rattle.state.specs.States.{State}
use Rattle.entries.specs.Entries.{start_answer}

-- "a table, then records, each by its length field": as many bytes as the first four count, and these four
unfoldable pub table_part : List ℕ → List ℕ
table_part input = take (number32 input 0 + 4) input

-- a state with nothing in it
unfoldable pub empty_state : State
empty_state = replicate state_numbers 0

-- "A table longer than the longest that the ranges allow .. is refused 1, a cut one too": a cut one by rule 1; M-105: "the longest table is
-- 2,442 bytes", in either version
unfoldable pub input_answer : List ℕ → State → Answer State
input_answer input s = rule 1 (leb (number32 input 0 + 4) table_bytes) (start_answer (table_part input) s)
