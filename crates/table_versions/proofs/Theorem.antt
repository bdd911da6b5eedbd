-- A table of version 1 and the table of version 2 with the same numbers and β 0 get the same answers to every list of calls: each call's answer
-- is what rules 1 to 7 and the values in use make of it, and these are the same.
use Prim.Native.Nat.{ℕ}
use mathlib.Core.List.{List, [], ◌∷◌}
use mathlib.Core.Path.{◌≡◌, refl, ap}
use Rattle.refusal.specs.Answers.{Answer, accepted}
use Rattle.table.specs.Tables.{TableValues, table_of}
use Rattle.table.specs.InUse.{table_in}
use Rattle.table.specs.Rules.{table_rules}
use Rattle.table.specs.SameNumbers.{OfVersion, SameNumbers}
use Rattle.table.proofs.SameLaws.{same-rules, same-in-use}
use Rattle.state.specs.States.{State}
use Rattle.state.specs.Start.{started}
use Rattle.state.specs.Answers.{state_after}
use Rattle.entries.specs.Entries.{start_answer, step_rules, step_on_answer, step_answer, forecast_on_answer, forecast_answer}
use Rattle.entries.specs.Trials.{tried_answer, trial_answer}
use Rattle.gauge_look.specs.GaugeLooks.{rating_after, rating_answer}
use Rattle.table_versions.specs.Calls.{
  Call,
  check,
  start,
  step,
  forecast,
  trial,
  rate,
  checked,
  moved,
  handed,
  rated,
  reply,
  left,
  replies,
  state_left,
  SameAnswers,
}

module _ (one other : List ℕ) (first : OfVersion 1 one) (second : OfVersion 2 other) (same : SameNumbers (table_of one) (table_of other)) where
  -- the congruence: whatever is made of an accepted table's values
  judged-same : {A : Type 0} (made : TableValues → Answer A) → table_rules one (made (table_in one)) ≡ table_rules other (made (table_in other))
  judged-same made = rw (same-in-use one other first second same) (same-rules one other first second same _)

  reply-same : (call : Call) (s : State) → reply one call s ≡ reply other call s
  unfolding reply start_answer step_answer forecast_answer trial_answer rating_answer
  reply-same check s = ap checked (judged-same accepted)
  reply-same start s = ap moved (judged-same (λ t. accepted (started t s)))
  reply-same (step bytes) s = ap moved (judged-same (λ t. step_on_answer t bytes s))
  reply-same (forecast room) s = ap handed (judged-same (λ t. forecast_on_answer t s room))
  reply-same (trial bytes room) s = ap handed (judged-same (λ t. step_rules t bytes s (tried_answer t bytes s room)))
  reply-same (rate gauge field) s = ap (λ a. rated (rating_after a gauge field)) (judged-same accepted)

  left-same : (call : Call) (s : State) → left one call s ≡ left other call s
  unfolding left start_answer step_answer
  left-same check s = refl
  left-same start s = ap (λ a. state_after a s) (judged-same (λ t. accepted (started t s)))
  left-same (step bytes) s = ap (λ a. state_after a s) (judged-same (λ t. step_on_answer t bytes s))
  left-same (forecast room) s = refl
  left-same (trial bytes room) s = refl
  left-same (rate gauge field) s = refl

  replies-same : (s : State) (calls : List Call) → replies one s calls ≡ replies other s calls
  unfolding replies
  replies-same s [] = refl
  replies-same s (call ∷ calls) = rw (reply-same call s, left-same call s, replies-same (left other call s) calls)

  states-same : (s : State) (calls : List Call) → state_left one s calls ≡ state_left other s calls
  unfolding state_left
  states-same s [] = refl
  states-same s (call ∷ calls) = rw (left-same call s, states-same (left other call s) calls)

  pub same-answers : SameAnswers one other
  same-answers = record { replies = replies-same; states = states-same }
