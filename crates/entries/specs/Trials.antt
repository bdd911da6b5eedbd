-- Document 02, M-102: "Offer a trial of a step that hands out the discharge, variance and margins of every element, as the step on a copy of
-- the state would, and refuses as the step would."
use Rattle.std.specs.Prelude.{ℕ, ◌*◌, Bool, List, leb}
use Rattle.refusal.specs.Answers.{Answer, rule}
use Rattle.units.specs.Ceiling.{under_ceiling}
use Rattle.method.specs.declared.Figures.{Figures}
use Rattle.table.specs.Tables.{TableValues}
use Rattle.table.specs.InUse.{table_in}
use Rattle.table.specs.Rules.{table_rules}
use Rattle.cells.specs.Cells.{last_cell, cells}
use Rattle.record.specs.Records.{input_at}
use Rattle.state.specs.States.{State}
use Rattle.network.specs.Step.{stepped, step_numbers}
use Rattle.network.specs.Forecast.{lead_figures}
use Rattle.network.specs.Answer.{by_element_and_lead}
use Rattle.entries.specs.Entries.{step_rules}

-- "laid out as a forecast of lead 0 alone": the figures of each element in a state
unfoldable pub state_figures : TableValues → State → List Figures
state_figures t s = by_element_and_lead (λ i lead. lead_figures t s lead (last_cell t i)) t.elements 1

-- "Space for fewer than 4 × N numbers is 15"
unfoldable pub trial_space_fits : TableValues → ℕ → Bool
trial_space_fits t room = leb (4 * t.elements) room

-- 15 and 16, and the figures that the step would leave, on an accepted table and record, with lent space for so many numbers
unfoldable pub tried_answer : TableValues → List ℕ → State → ℕ → Answer (List Figures)
tried_answer t bytes s room =
    rule 15 (trial_space_fits t room)
    (under_ceiling (step_numbers t (input_at (cells t) bytes) s) (state_figures t (stepped t (input_at (cells t) bytes) s)))

-- a trial on the bytes of a table and of a record
unfoldable pub trial_answer : List ℕ → List ℕ → State → ℕ → Answer (List Figures)
trial_answer table bytes s room = table_rules table (step_rules (table_in table) bytes s (tried_answer (table_in table) bytes s room))
