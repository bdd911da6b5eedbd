-- Every lead of a forecast stays within its margins of the lead in fractions.
use Prim.Native.Nat.{ℕ, zero, suc, ◌<◌}
use mathlib.Core.Path.{◌≡◌, subst}
use Rattle.weighting.specs.Estimates.{estimate}
use Rattle.exact.specs.Margins.{Tracks, Follows}
use Rattle.exact.proofs.Theorems.{first-near, forecast-inflow-near, no-inflow-near}
use Rattle.elements.specs.Kinds.{basin, dam}
use Rattle.elements.proofs.KindLaws.{kind-both}
use Rattle.table.specs.Tables.{TableValues}
use Rattle.table.specs.Bounds.{TableBounds}
use Rattle.cells.specs.Cells.{cells}
use Rattle.state.specs.States.{State, steps_of, cell_figures, cell_rains}
use Rattle.element_step.specs.ElementStep.{released, own_of}
use Rattle.network.specs.Step.{no_observation}
use Rattle.network.specs.Forecast.{lead_inflow, forecast_own, lead_figures}
use Rattle.exact_run.specs.ExactForecast.{ExactState, exact_lead_inflow, exact_forecast_own, exact_no_observation, exact_lead_figures}
use Rattle.exact_run.specs.ExactStep.{exact_released, exact_own_of}
use Rattle.exact_run.specs.Following.{Observes, no-reading}
use Rattle.exact_run.proofs.StepNear.{step-near}

-- the two states agree: the same step count, the same rains at each basin, and figures that follow; what a dam lets out has no margin, so
-- that both runs hold the same
pub record Agrees (t : TableValues) (s : State) (x : ExactState) : Type 0 where
  pub steps : steps_of s ≡ x.steps
  pub rains : (i : ℕ) → i < (cells t).elements → ((cells t).element i).kind ≡ basin → cell_rains t s i ≡ x.rains i
  pub figures : (i : ℕ) → i < (cells t).elements → Follows (cell_figures t s i) (x.figures i)
  pub held : (i : ℕ) → i < (cells t).elements → ((cells t).element i).kind ≡ dam → (cell_figures t s i).discharge_margin.0 ≡ 0

module _ (t : TableValues) (s : State) (x : ExactState) (b : TableBounds (cells t)) (a : Agrees t s x) where
  rain-follows : (lead i : ℕ) → i < (cells t).elements → ((cells t).element i).kind ≡ basin → Follows (lead_inflow t s lead i) (exact_lead_inflow (cells t) x lead i)
  unfolding lead_inflow exact_lead_inflow
  rain-follows lead i l k = rw (← a.rains i l k, ← a.steps) (forecast-inflow-near _ _ _ _ lead _)

  release-follows : (i : ℕ) → i < (cells t).elements → ((cells t).element i).kind ≡ dam → Tracks (estimate (cell_figures t s i).discharge.0 0) (x.figures i).discharge
  release-follows i l k =
      subst (λ (m : ℕ). Tracks (estimate (cell_figures t s i).discharge.0 m) (x.figures i).discharge) (a.held i l k) (a.figures i l).discharge

  own-follows : (lead i : ℕ) → i < (cells t).elements → Follows (forecast_own t s lead i) (exact_forecast_own (cells t) x lead i)
  unfolding forecast_own exact_forecast_own own_of exact_own_of released exact_released
  own-follows lead i l =
      kind-both Follows ((cells t).element i).kind (rain-follows lead i l) (λ _. no-inflow-near)
      (λ k. record { discharge = release-follows i l k; variance = first-near ((cells t).element i).system_noise.0 }) (λ _ _ _. no-inflow-near)

  none : (i : ℕ) → Observes (no_observation i) (exact_no_observation i)
  unfolding no_observation exact_no_observation
  none i = no-reading

  pub leads-near : (lead i : ℕ) → i < (cells t).elements → Follows (lead_figures t s lead i) (exact_lead_figures (cells t) x lead i)
  unfolding lead_figures exact_lead_figures
  leads-near zero i l = a.figures i l
  leads-near (suc lead) i l =
      step-near (cells t) _ _ _ _ _ _ b (own-follows (suc lead)) (λ k m. none k) (leads-near lead) i l
