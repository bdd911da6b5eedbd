-- Document 01, the program: from its input to its output.
use Rattle.std.specs.Prelude.{ℕ, zero, suc, ◌+◌, true, false, List, [], ◌∷◌, ◌++◌, take, drop}
use Rattle.sizes.specs.Sizes.{most_records}
use Rattle.refusal.specs.Answers.{Answer, accepted, refused}
use Rattle.fields.specs.Bytes.{number16, number32}
use Rattle.state.specs.States.{State}
use Rattle.table_input.specs.Start.{table_part, empty_state, input_answer}
use Rattle.lines.specs.Printed.{refusal_line}
use Rattle.program.specs.Records.{record_printed}

-- "A record is judged on its two length bytes and as many bytes after them as these count, or on what is left where the input
-- stops sooner."
unfoldable pub record_bytes : List ℕ → List ℕ
record_bytes rest = take (number16 rest 0 + 2) rest

-- the input after a record
unfoldable pub rest_after : List ℕ → List ℕ
rest_after rest = drop (number16 rest 0 + 2) rest

-- what so many records print: "input that stops before a record's first byte ends the run with nothing more printed", and so
-- does a refusal from 1 to 10
unfoldable pub records_text : ℕ → List ℕ → List ℕ → State → List ℕ
records_text zero table rest s = []
records_text (suc left) table [] s = []
records_text (suc left) table (b ∷ rest) s =
    let p = record_printed table (record_bytes (b ∷ rest)) s in
    let more = records_text left table (rest_after (b ∷ rest)) p.state in
    p.text ++ elim p.ended [ true ↦ [] | false ↦ more ]

-- "After 100,000 records, refused ones counted, the run ends in the same way."
unfoldable pub run_text : List ℕ → Answer State → List ℕ
run_text input (accepted s) = records_text most_records (table_part input) (drop (number32 input 0 + 4) input) s
run_text input (refused n) = refusal_line 0 n

-- from standard input to standard output
unfoldable pub program : List ℕ → List ℕ
program input = run_text input (input_answer input empty_state)
