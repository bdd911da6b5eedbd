-- Document 01, The run in fractions: "It has its own discharges, variances, step count and last three rains." and "a forecast
-- works its leads from them and leaves them."; document 02, M-100: a dam's own discharge is held through the leads.
use Rattle.std.specs.Prelude.{ℕ, zero, suc}
use Rattle.exact.specs.Exact.{ExactFigures, exact_forecast_inflow}
use Rattle.table.specs.Tables.{TableValues}
use Rattle.state.specs.declared.Rains.{Rains}
use Rattle.network.specs.Forecast.{rain_count, rain_sum}
use Rattle.exact_run.specs.ExactStep.{ExactObservation, nothing, exact_released, exact_own_of, exact_new_figures}

pub record ExactState : Type 0 where
  pub steps : ℕ
  pub rains : ℕ → Rains
  pub figures : ℕ → ExactFigures

unfoldable pub exact_lead_inflow : TableValues → ExactState → ℕ → ℕ → ExactFigures
exact_lead_inflow t x lead i =
    let c : ℕ = rain_count x.steps in
    exact_forecast_inflow (rain_sum (x.rains i) c) c (t.element i).area (t.element i).runoff lead (t.element i).rain_noise.0

unfoldable pub exact_forecast_own : TableValues → ExactState → ℕ → ℕ → ExactFigures
exact_forecast_own t x lead i =
    let e = t.element i in exact_own_of e.kind (exact_lead_inflow t x lead i) (exact_released e (x.figures i).discharge)

unfoldable pub exact_no_observation : ℕ → ExactObservation
exact_no_observation i = nothing

-- the figures of each element at a lead; lead 0 is the state itself
unfoldable pub exact_lead_figures : TableValues → ExactState → ℕ → ℕ → ExactFigures
exact_lead_figures t x zero = x.figures
exact_lead_figures t x (suc lead) =
    exact_new_figures t (exact_forecast_own t x (suc lead)) exact_no_observation (exact_lead_figures t x lead)
