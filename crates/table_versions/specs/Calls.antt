-- Document 02, M-105: "version 1 means β 0". Every list of calls on a table, and all that it is answered, by the definitions of the calls'
-- contracts.
use Rattle.std.specs.Prelude.{ℕ, List, [], ◌∷◌, ◌≡◌}
use Rattle.refusal.specs.Answers.{Answer, accepted}
use Rattle.rating.specs.Looks.{Look}
use Rattle.method.specs.declared.Figures.{Figures}
use Rattle.table.specs.Tables.{TableValues}
use Rattle.table.specs.InUse.{table_in}
use Rattle.table.specs.Rules.{table_rules}
use Rattle.state.specs.States.{State}
use Rattle.state.specs.Answers.{state_after}
use Rattle.entries.specs.Entries.{start_answer, step_answer, forecast_answer}
use Rattle.entries.specs.Trials.{trial_answer}
use Rattle.gauge_look.specs.GaugeLooks.{rating_answer}

-- the calls that take a table: a check; a start; a step, by the bytes of its record; a forecast, with lent space for so many numbers; a trial,
-- by both; a rating, by a gauge and a stage field
pub data Call : Type 0 where
  check : Call
  start : Call
  step : List ℕ → Call
  forecast : ℕ → Call
  trial : List ℕ → ℕ → Call
  rate : ℕ → ℕ → Call

-- what one is answered
pub data Reply : Type 0 where
  checked : Answer TableValues → Reply
  moved : Answer State → Reply
  handed : Answer (List Figures) → Reply
  rated : Look → Reply

module _ (table : List ℕ) where
  unfoldable pub reply : Call → State → Reply
  reply check s = checked (table_rules table (accepted (table_in table)))
  reply start s = moved (start_answer table s)
  reply (step bytes) s = moved (step_answer table bytes s)
  reply (forecast room) s = handed (forecast_answer table s room)
  reply (trial bytes room) s = handed (trial_answer table bytes s room)
  reply (rate gauge field) s = rated (rating_answer table gauge field)

  -- the state that a call leaves
  unfoldable pub left : Call → State → State
  left check s = s
  left start s = state_after (start_answer table s) s
  left (step bytes) s = state_after (step_answer table bytes s) s
  left (forecast room) s = s
  left (trial bytes room) s = s
  left (rate gauge field) s = s

  -- the calls one after the other, each on the state that the one before left: their replies, and the state after all of them
  unfoldable pub replies : State → List Call → List Reply
  replies s [] = []
  replies s (call ∷ calls) = reply call s ∷ replies (left call s) calls

  unfoldable pub state_left : State → List Call → State
  state_left s [] = s
  state_left s (call ∷ calls) = state_left (left call s) calls

-- two tables that no list of calls tells apart
pub record SameAnswers (one other : List ℕ) : Type 0 where
  pub replies : (s : State) (calls : List Call) → replies one s calls ≡ replies other s calls
  pub states : (s : State) (calls : List Call) → state_left one s calls ≡ state_left other s calls
