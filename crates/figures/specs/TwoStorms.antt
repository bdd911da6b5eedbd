-- Document 02, M-106: two storms as `more-rain` asks for them, with strictly more water in the second.
use Rattle.std.specs.Prelude.{ℕ, List, [], ◌∷◌, map, ◌≡◌, length}
use Rattle.sizes.specs.Sizes.{state_numbers}
use Rattle.refusal.specs.Answers.{accepted}
use Rattle.method.specs.declared.Figures.{Figures}
use Rattle.table.specs.InUse.{table_in}
use Rattle.state.specs.States.{State}
use Rattle.state.specs.Start.{started}
use Rattle.entries.specs.Entries.{start_answer}
use Rattle.table_input.specs.Start.{empty_state}
use Rattle.claim.specs.Calls.{Call, step, forecast, Place}
use Rattle.claim.specs.CabinetRun.{Outcome}
use Rattle.claim.specs.Claim.{outcomes}
use Rattle.more_rain.specs.MoreRain.{TwoStorms}
use Rattle.figures.specs.Starred.{one_basin}

-- after a start on the table of document 01's example
abbrev pub fresh_state : State
fresh_state = started (table_in (one_basin 0)) empty_state

-- a record with this rain, of at most 255; its step, and a forecast with space for its 4 × 1 × (1 + 1) numbers
abbrev pub rain_record : ℕ → List ℕ
rain_record rain = 0 ∷ 3 ∷ 1 ∷ 0 ∷ rain ∷ []

abbrev pub storm : ℕ → List Call
storm rain = step (rain_record rain) ∷ forecast 8 ∷ []

-- one of the figures that the start and each call hand out
abbrev pub handed : (Figures → ℕ) → List Call → List (List ℕ)
handed figure calls = map (λ (o : Outcome). map (λ (x : Place × Figures). figure x.1) o.handed) (outcomes (one_basin 0) fresh_state calls)

-- all that `more-rain` asks, and what the start, the step and the forecast, at leads 0 and 1, hand out
pub record TwoStormsDiffer : Type 0 where
  pub full : length empty_state ≡ state_numbers
  pub fresh : start_answer (one_basin 0) empty_state ≡ accepted fresh_state
  pub storms : TwoStorms (one_basin 0) fresh_state (storm 100) (storm 200)
  pub less-rain : handed (λ f. f.discharge.0) (storm 100) ≡ (0 ∷ []) ∷ (63_212_055 ∷ []) ∷ (63_212_055 ∷ 86_466_471 ∷ []) ∷ []
  pub more-rain : handed (λ f. f.discharge.0) (storm 200) ≡ (0 ∷ []) ∷ (126_424_111 ∷ []) ∷ (126_424_111 ∷ 172_932_943 ∷ []) ∷ []
  pub variances : handed (λ f. f.variance.0) (storm 200) ≡ (0 ∷ []) ∷ (0 ∷ []) ∷ (0 ∷ 399 ∷ []) ∷ []
