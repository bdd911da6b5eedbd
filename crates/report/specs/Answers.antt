-- Serves the code: what it relies on, and what it answers for a record.
use Rattle.method.specs.declared.Figures.{Figures}
use Rattle.std.specs.Prelude.{ℕ, ◌+◌, ◌≤◌, Bool, true, List, ◌≡◌, length}
use Rattle.sizes.specs.Sizes.{state_numbers, forecast_places, text_bytes}
use Rattle.table.specs.InUse.{table_in}
use Rattle.state.specs.States.{State}
use Rattle.state.specs.Rules.{state_fits}
use Rattle.table.specs.declared.Counts.{Counts}
use Rattle.element_weights.specs.Weights.{Weighed}
use Rattle.text.specs.declared.TextSpace.{TextSpace}
use Rattle.refusal_answer.specs.Answers.{TextAnswered}
use Rattle.program.specs.Records.{Printed}

-- an accepted table with its counts and weights, a state that rule 8 accepts, working space for a forecast, and room for a
-- record's text
pub record RecordReady
    (table : List ℕ) (counts : Counts) (weights : List ℕ) (state : State) (space : List Figures) (text : TextSpace)
    : Type 0 where
  pub weighed : Weighed table counts weights
  pub state_whole : length state ≡ state_numbers
  pub state_kept : state_fits (table_in table) state ≡ true
  pub space_full : length space ≡ forecast_places
  pub room : text.at + text_bytes ≤ length text.bytes.now

-- a text is put, as it is printed of a record
abbrev pub TextAnsweredOf : Bool → TextSpace → TextSpace → Printed → Type 0
TextAnsweredOf r before after printed = TextAnswered r before after printed.text printed.ended

-- the text is put, and every number of the state is the record's
pub record Reported (r : Bool) (before after : TextSpace) (state : State) (printed : Printed) : Type 0 where
  pub answered : TextAnsweredOf r before after printed
  pub left : state ≡ printed.state
