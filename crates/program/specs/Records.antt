-- Document 01, the program: what a record prints, the state that it leaves, and whether it ends the run.
use Rattle.std.specs.Prelude.{ℕ, ◌+◌, Bool, false, List, leb}
use Rattle.sizes.specs.Sizes.{answer_numbers}
use Rattle.refusal.specs.Answers.{Answer, accepted, refused}
use Rattle.method.specs.declared.Figures.{Figures}
use Rattle.table.specs.Tables.{TableValues}
use Rattle.table.specs.InUse.{table_in}
use Rattle.state.specs.States.{State, steps_of}
use Rattle.entries.specs.Entries.{step_answer, step_on_answer, forecast_answer, forecast_on_answer}
use Rattle.lines.specs.Printed.{answer_lines, refusal_line}

pub record Printed : Type 0 where
  pub text : List ℕ
  pub state : State
  pub ended : Bool

-- "After each accepted step it prints, one line each .., by element and then lead 0 (the state) to L": the figures of a forecast
unfoldable pub figures_lines : TableValues → ℕ → List Figures → List ℕ
figures_lines t steps fs = answer_lines steps (t.leads + 1) fs t.elements

-- "A refusal prints accepted steps so far, "refused", the number; any from 1 to 10 ends the run, after others the next record is
-- read."
unfoldable pub refusal_printed : State → ℕ → Printed
refusal_printed s n = record { text = refusal_line (steps_of s) n; state = s; ended = leb n 10 }

-- "A forecast refused 15 or 16 keeps the step, which is counted, and prints only the refusal."
unfoldable pub forecast_printed : TableValues → State → Answer (List Figures) → Printed
forecast_printed t next (accepted fs) = record { text = figures_lines t (steps_of next) fs; state = next; ended = false }
forecast_printed t next (refused n) = refusal_printed next n

-- a step's answer, and the forecast after an accepted one
unfoldable pub step_printed : TableValues → (State → Answer (List Figures)) → State → Answer State → Printed
step_printed t forecast s (accepted next) = forecast_printed t next (forecast next)
step_printed t forecast s (refused n) = refusal_printed s n

-- a record on the bytes of a table; the space of the program's forecasts holds the largest answer
unfoldable pub record_printed : List ℕ → List ℕ → State → Printed
record_printed table bytes s =
    step_printed (table_in table) (λ next. forecast_answer table next answer_numbers) s (step_answer table bytes s)

-- a record on an accepted table
unfoldable pub record_on_printed : TableValues → List ℕ → State → Printed
record_on_printed t bytes s = step_printed t (λ next. forecast_on_answer t next answer_numbers) s (step_on_answer t bytes s)
