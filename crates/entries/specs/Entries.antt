-- Document 01, Numbers for no: "Starting uses 1 to 7; a step 1 to 14 and 16; a forecast 1 to 8, 15 and 16."; document 02, M-100: a step 17
-- too, "between 12 and 13", and M-104: 18, "between 13 and 14".
use Rattle.std.specs.Prelude.{ℕ, List}
use Rattle.refusal.specs.Answers.{Answer, accepted, rule}
use Rattle.units.specs.Ceiling.{under_ceiling}
use Rattle.method.specs.declared.Figures.{Figures}
use Rattle.table.specs.Tables.{TableValues}
use Rattle.table.specs.InUse.{table_in}
use Rattle.table.specs.Rules.{table_rules}
use Rattle.cells.specs.Cells.{cells}
use Rattle.record.specs.Records.{input_at}
use Rattle.record.specs.Rules.{record_rules}
use Rattle.state.specs.States.{State}
use Rattle.state.specs.Rules.{state_fits, steps_left}
use Rattle.state.specs.Start.{started}
use Rattle.network.specs.Step.{stepped, step_numbers}
use Rattle.network.specs.Answer.{leads_answer}

-- starting on the bytes of a table, from any state
unfoldable pub start_answer : List ℕ → State → Answer State
start_answer table s = table_rules table (accepted (started (table_in table) s))

-- a step's rules from 8 to 14, with 17 and 18, in checking order; where all are kept, what follows them decides
unfoldable pub step_rules : {A : Type 0} → TableValues → List ℕ → State → Answer A → Answer A
step_rules t bytes s rest = rule 8 (state_fits t s) (rule 9 (steps_left s) (record_rules t bytes rest))

-- a step on an accepted table and the bytes of a record
unfoldable pub step_on_answer : TableValues → List ℕ → State → Answer State
step_on_answer t bytes s = step_rules t bytes s (under_ceiling (step_numbers t (input_at (cells t) bytes) s) (stepped t (input_at (cells t) bytes) s))

-- a step on the bytes of a table and of a record
unfoldable pub step_answer : List ℕ → List ℕ → State → Answer State
step_answer table bytes s = table_rules table (step_on_answer (table_in table) bytes s)

-- a forecast on an accepted table, with lent space for so many numbers
unfoldable pub forecast_on_answer : TableValues → State → ℕ → Answer (List Figures)
forecast_on_answer t s room = rule 8 (state_fits t s) (leads_answer t s room)

-- a forecast on the bytes of a table
unfoldable pub forecast_answer : List ℕ → State → ℕ → Answer (List Figures)
forecast_answer table s room = table_rules table (forecast_on_answer (table_in table) s room)
