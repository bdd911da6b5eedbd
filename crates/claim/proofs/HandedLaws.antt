-- What an accepted call hands out is within its margins and under the limit.
use Rattle.std.specs.Prelude.{None}
use Prim.Native.Nat.{ℕ, zero, suc, ◌+◌, ◌≤◌, ◌<◌, ◌-◌}
use mathlib.Core.Bool.{Bool}
use mathlib.Core.Path.{◌≡◌, refl, ap}
use native.Mathlib.Omega.{arith}
use Rattle.method.specs.declared.Figures.{Figures}
use Rattle.method.specs.Inflow.{no_inflow, forecast_inflow}
use Rattle.elements.proofs.KindLaws.{kind-cases}
use Rattle.exact.specs.Exact.{ExactFigures}
use Rattle.exact.specs.Margins.{Follows}
use Rattle.table.specs.Tables.{TableValues}
use Rattle.table.specs.Bounds.{AcceptedBounds}
use Rattle.cells.specs.Cells.{last_cell, cells}
use Rattle.cells.proofs.CellLaws.{last-place, last-in-use}
use Rattle.cells.proofs.BoundsLaws.{cells-bounds}
use Rattle.state.specs.States.{State, steps_of, figures_of}
use Rattle.state.proofs.BoundsLaws.{state-bounds}
use Rattle.element_step.specs.ElementStep.{released, own_of}
use Rattle.network.specs.Step.{no_observation}
use Rattle.network.specs.Forecast.{lead_inflow, forecast_own, lead_figures}
use Rattle.network.specs.Answer.{forecast_figures}
use Rattle.network.proofs.NumbersLaws.{lead-part}
use Rattle.exact_run.specs.ExactForecast.{ExactState, exact_lead_figures}
use Rattle.exact_run.proofs.ForecastNear.{leads-near}
use Rattle.exact_run.proofs.LimitLaws.{limit-step}
use Rattle.claim.specs.Calls.{state_places, forecast_places, paired}
use Rattle.claim.specs.CabinetRun.{state_handed}
use Rattle.claim.specs.FractionRun.{exact_state_handed, exact_forecast_handed}
use Rattle.claim.specs.Claim.{Pairwise, All, WithinMargins, UnderLimit}
use Rattle.claim.proofs.ListLaws.{near-listed, near-by-lead, every-listed, every-by-lead}
use Rattle.entries.proofs.ForecastLaws.{Forecasting, lead-fits}
use Rattle.claim.proofs.CeilingLaws.{own-under, above-under}
use Rattle.claim.proofs.TogetherLaws.{Limited, Together}
use Rattle.claim.proofs.CellReadings.{at_its_element, cells-unread}

-- figures that follow are within their margins, at equal step counts
within-margins :
    {n m : ℕ} (i lead : ℕ) {f : Figures} {x : ExactFigures}
    → n ≡ m
    → Follows f x
    → WithinMargins (record { steps = n; element = i; lead = lead }, f) (record { steps = m; element = i; lead = lead }, x)
within-margins i lead e h =
    record {
      place = ap (λ (k : ℕ). record { steps = k; element = i; lead = lead }) e;
      discharge = h.discharge.within;
      variance = h.variance.within;
    }

module _ (t : TableValues) (b : AcceptedBounds t) (s : State) (x : ExactState) (has_reading : ℕ → Bool) (both : Together t s x has_reading) where
  -- the state itself, after a start or a step
  pub state-near : Pairwise WithinMargins (state_handed t s) (exact_state_handed t x)
  unfolding state_handed exact_state_handed state_places
  state-near =
      near-listed WithinMargins _ (figures_of s) _ (λ i. x.figures (last_cell t i)) t.elements
      (λ i l. within-margins (i + 1) 0 both.agrees.steps (rw (last-place t i l) at (both.agrees.figures (last_cell t i) (last-in-use t i l))))

  back : (i : ℕ) → i + 1 - 1 ≡ i
  back i = omega arith

  last-limit : (i : ℕ) → i < t.elements → Limited t has_reading (steps_of s) (last_cell t i) (figures_of s i)
  last-limit i l = rw (last-place t i l) at (both.limit (last_cell t i) (last-in-use t i l))

  pub state-limit : All (UnderLimit t has_reading) (state_handed t s)
  unfolding state_handed state_places UnderLimit
  state-limit =
      every-listed (UnderLimit t has_reading) _ (figures_of s) t.elements (λ i l q. rw (back i) (omega (arith, last-limit i l (cells-unread t b has_reading i l q))))

  -- the leads of an accepted forecast
  module _ (call : Forecasting t s) where
    -- what an element has of its own has margin 1 or none
    own-margin : (lead i : ℕ) → (forecast_own t s lead i).discharge_margin.0 ≤ 1
    unfolding forecast_own own_of lead_inflow forecast_inflow released no_inflow
    own-margin lead i =
        kind-cases (λ (f : Figures). f.discharge_margin.0 ≤ 1) ((cells t).element i).kind (λ _. omega arith) (λ _. omega arith)
        (λ _. omega arith) (λ _ _ _. omega arith)

    -- "leads 1 to L are steps without readings"
    none : (i : ℕ) → no_observation i ≡ None
    unfolding no_observation
    none i = refl

    -- each lead is under the limit
    lead_low : (lead : ℕ) → lead ≤ t.leads → (i : ℕ) → i < (cells t).elements → Limited t has_reading (steps_of s + lead) i (lead_figures t s lead i)
    unfolding lead_figures
    lead_low zero m i l q = omega (arith, both.limit i l q)
    lead_low (suc lead) m i l q =
        omega (
          arith,
          limit-step (cells t) (forecast_own t s (suc lead)) no_observation (lead_figures t s lead) (at_its_element t has_reading) (at_its_element t has_reading) (steps_of s + lead) (cells-bounds t b)
              (omega (arith, (state-bounds t s call.fits).steps, m, b.leads_most))
              (λ k n. (lead-fits t s call lead (omega arith) k n).discharge)
              (own-under (cells t) (forecast_own t s (suc lead)) no_observation (lead_figures t s lead) (lead-part t s lead t.leads m call.under))
              (above-under (cells t) (forecast_own t s (suc lead)) no_observation (lead_figures t s lead) (lead-part t s lead t.leads m call.under))
              (λ k n. own-margin (suc lead) k)
              (λ k h. h)
              (λ k n h. none k)
              (lead_low lead (omega arith))
              i
              l
              q,
        )

    -- all that the forecast answers
    pub forecast-near : Pairwise WithinMargins (paired (forecast_places t (steps_of s)) (forecast_figures t s)) (exact_forecast_handed t x)
    unfolding forecast_figures exact_forecast_handed forecast_places
    forecast-near =
        near-by-lead WithinMargins _ (λ i lead. lead_figures t s lead (last_cell t i)) _ (λ i lead. exact_lead_figures (cells t) x lead (last_cell t i)) t.elements
        (t.leads + 1)
        (λ i lead l m. within-margins (i + 1) lead both.agrees.steps (leads-near t s x (cells-bounds t b) both.agrees lead (last_cell t i) (last-in-use t i l)))

    pub forecast-limit : All (UnderLimit t has_reading) (paired (forecast_places t (steps_of s)) (forecast_figures t s))
    unfolding forecast_figures forecast_places UnderLimit
    forecast-limit =
        every-by-lead (UnderLimit t has_reading) _ (λ i lead. lead_figures t s lead (last_cell t i)) t.elements (t.leads + 1)
        (λ i lead l m q. rw (back i) (lead_low lead (omega arith) (last_cell t i) (last-in-use t i l) (cells-unread t b has_reading i l q)))
