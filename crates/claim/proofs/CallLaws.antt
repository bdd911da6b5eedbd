-- One call, accepted or refused, from two runs that stand together: what it hands out, and that they stand together after it.
use Prim.Native.Nat.{ℕ}
use mathlib.Core.Bool.{Bool}
use mathlib.Core.List.{List}
use mathlib.Core.Path.{◌≡◌, refl, sym, subst}
use Rattle.refusal.specs.Answers.{Answer, accepted, refused}
use Rattle.method.specs.declared.Figures.{Figures}
use Rattle.exact.specs.Exact.{ExactFigures}
use Rattle.table.specs.Tables.{TableValues}
use Rattle.table.specs.InUse.{table_in}
use Rattle.table.specs.Bounds.{AcceptedBounds}
use Rattle.cells.specs.Cells.{cells}
use Rattle.state.specs.States.{State, steps_of}
use Rattle.state.specs.Answers.{state_after}
use Rattle.entries.specs.Entries.{step_answer, forecast_answer}
use Rattle.exact_run.specs.ExactForecast.{ExactState}
use Rattle.exact_run.specs.ExactRun.{exact_stepped}
use Rattle.claim.specs.Calls.{Call, step, forecast, Place}
use Rattle.claim.specs.CabinetRun.{has_reading_after, is_refused, state_handed, step_handed, forecast_handed, has_reading_by, next_state, outcome}
use Rattle.claim.specs.FractionRun.{exact_state_handed, exact_forecast_handed, exact_next, exact_handed}
use Rattle.claim.specs.Claim.{Pairwise, All, none, WithinMargins, UnderLimit}
use Rattle.claim.proofs.AcceptedLaws.{stepping, forecasting}
use Rattle.claim.proofs.TogetherLaws.{Together, step-together}
use Rattle.claim.proofs.HandedLaws.{state-near, state-limit, forecast-near, forecast-limit}

-- a call that keeps the claim: what both runs hand out, the readings by then, and the states after it
pub record Keeps
    (t : TableValues) (handed : List (Place × Figures)) (exact : List (Place × ExactFigures)) (has_reading : ℕ → Bool) (s : State)
    (x : ExactState) : Type 0 where
  pub near : Pairwise WithinMargins handed exact
  pub limit : All (UnderLimit t has_reading) handed
  pub after : Together t s x has_reading

-- a state that stands together with the other run's, as it is handed out
pub state-keeps :
    (t : TableValues) (s : State) (x : ExactState) (has_reading : ℕ → Bool)
    → AcceptedBounds t
    → Together t s x has_reading
    → Keeps t (state_handed t s) (exact_state_handed t x) has_reading s x
state-keeps t s x has_reading b h =
    record { near = state-near t b s x has_reading h; limit = state-limit t b s x has_reading h; after = h }

module _
    (table : List ℕ) (s : State) (x : ExactState) (has_reading : ℕ → Bool) (b : AcceptedBounds (table_in table))
    (before : Together (table_in table) s x has_reading) where
  abbrev t : TableValues
  t = table_in table

  -- a step, by its answer
  step_keeps :
      (bytes : List ℕ) (answer : Answer State)
      → step_answer table bytes s ≡ answer
      → Keeps t
      (step_handed t answer)
      (exact_handed t (step bytes) (is_refused answer) x)
      (has_reading_by t bytes answer has_reading)
      (state_after answer s)
      (exact_next t (step bytes) (is_refused answer) x)
  unfolding step_handed exact_handed is_refused has_reading_by state_after exact_next
  step_keeps bytes (accepted next) e =
      let k = stepping table bytes s next e in
      subst
      (λ (n : State). Keeps t (state_handed t n) (exact_state_handed t (exact_stepped (cells t) bytes x)) (has_reading_after t bytes has_reading) n (exact_stepped (cells t) bytes x))
      (sym k.1) (state-keeps t _ _ _ b (step-together t bytes s x has_reading b k.0 before))
  step_keeps bytes (refused n) e = record { near = none; limit = none; after = before }

  -- a forecast, by its answer
  forecast-keeps :
      (room : ℕ) (answer : Answer (List Figures))
      → forecast_answer table s room ≡ answer
      → Keeps t
      (forecast_handed t (steps_of s) answer)
      (exact_handed t (forecast room) (is_refused answer) x)
      has_reading
      s
      (exact_next t (forecast room) (is_refused answer) x)
  unfolding forecast_handed exact_handed is_refused exact_next
  forecast-keeps room (accepted figures) e =
      let k = forecasting table s room figures e in
      subst
      (λ (f : List Figures). Keeps t (forecast_handed t (steps_of s) (accepted f)) (exact_forecast_handed t x) has_reading s x)
      (sym k.1)
      (record {
        near = forecast-near t b s x has_reading before k.0;
        limit = forecast-limit t b s x has_reading before k.0;
        after = before;
      })
  forecast-keeps room (refused n) e = record { near = none; limit = none; after = before }

  -- any call
  pub call-keeps :
      (call : Call)
      → Keeps t
      (outcome table call s has_reading).handed
      (exact_handed t call (outcome table call s has_reading).was_refused x)
      (outcome table call s has_reading).has_reading
      (next_state table call s)
      (exact_next t call (outcome table call s has_reading).was_refused x)
  unfolding outcome next_state
  call-keeps (step bytes) = step_keeps bytes (step_answer table bytes s) refl
  call-keeps (forecast room) = forecast-keeps room (forecast_answer table s room) refl
