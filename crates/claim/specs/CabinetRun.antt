-- Document 01, The run in fractions: what the cabinet answers to a list of calls, by the definitions of the entries' contracts.
use Rattle.units.specs.declared.Stage.{Stage}
use Rattle.std.specs.Prelude.{ℕ, zero, suc, Bool, true, false, ◌||◌, List, [], ◌∷◌, Option, Some, None}
use Rattle.refusal.specs.Answers.{Answer, accepted, refused}
use Rattle.method.specs.declared.Figures.{Figures}
use Rattle.table.specs.Tables.{TableValues}
use Rattle.table.specs.InUse.{table_in}
use Rattle.record.specs.Records.{reading_at, at_element}
use Rattle.state.specs.States.{State, steps_of, figures_of}
use Rattle.state.specs.Answers.{state_after}
use Rattle.network.specs.Answer.{listed}
use Rattle.entries.specs.Entries.{step_answer, forecast_answer}
use Rattle.claim.specs.Calls.{Call, step, forecast, Place, state_places, forecast_places, paired}

-- "anything but a gap"
unfoldable pub is_reading : Option Stage → Bool
is_reading None = false
is_reading (Some h) = true

-- "A reading has come in at an element where an accepted step since the start gave its gauge anything but a gap.": of each
-- element number, before a step and after it
unfoldable pub has_reading_after : TableValues → List ℕ → (ℕ → Bool) → ℕ → Bool
has_reading_after t bytes has_reading zero = false
has_reading_after t bytes has_reading (suc i) = has_reading (suc i) || is_reading (at_element t None (reading_at t bytes) i t.gauges)

unfoldable pub is_refused : {A : Type 0} → Answer A → Bool
is_refused (accepted a) = false
is_refused (refused n) = true

-- what a call hands out: the figures of the state that a step leaves, or those that a forecast answers
unfoldable pub state_handed : TableValues → State → List (Place × Figures)
state_handed t s = paired (state_places t (steps_of s)) (listed (figures_of s) t.elements)

unfoldable pub step_handed : TableValues → Answer State → List (Place × Figures)
step_handed t (accepted next) = state_handed t next
step_handed t (refused n) = []

unfoldable pub forecast_handed : TableValues → ℕ → Answer (List Figures) → List (Place × Figures)
forecast_handed t steps (accepted figures) = paired (forecast_places t steps) figures
forecast_handed t steps (refused n) = []

-- whether a call was refused, what it handed out, and the elements at which a reading has come in by then
pub record Outcome : Type 0 where
  pub was_refused : Bool
  pub handed : List (Place × Figures)
  pub has_reading : ℕ → Bool

-- where readings have come in after a step; "refused calls it skips"
unfoldable pub has_reading_by : TableValues → List ℕ → Answer State → (ℕ → Bool) → ℕ → Bool
has_reading_by t bytes (accepted next) has_reading = has_reading_after t bytes has_reading
has_reading_by t bytes (refused n) has_reading = has_reading

module _ (table : List ℕ) where
  unfoldable pub next_state : Call → State → State
  next_state (step bytes) s = state_after (step_answer table bytes s) s
  next_state (forecast room) s = s

  unfoldable pub outcome : Call → State → (ℕ → Bool) → Outcome
  outcome (step bytes) s has_reading =
      record {
        was_refused = is_refused (step_answer table bytes s);
        handed = step_handed (table_in table) (step_answer table bytes s);
        has_reading = has_reading_by (table_in table) bytes (step_answer table bytes s) has_reading;
      }
  outcome (forecast room) s has_reading =
      record {
        was_refused = is_refused (forecast_answer table s room);
        handed = forecast_handed (table_in table) (steps_of s) (forecast_answer table s room);
        has_reading = has_reading;
      }

  -- the calls one after the other, each on the state that the one before left
  unfoldable pub cabinet_run : State → (ℕ → Bool) → List Call → List Outcome
  cabinet_run s has_reading [] = []
  cabinet_run s has_reading (call ∷ calls) =
      outcome call s has_reading ∷ cabinet_run (next_state call s) (outcome call s has_reading).has_reading calls

  -- "the state after that start"
  unfoldable pub start_outcome : State → Outcome
  start_outcome s = record { was_refused = false; handed = state_handed (table_in table) s; has_reading = λ k. false }
