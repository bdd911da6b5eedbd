-- Two states with at least as much water in the second: a step on records with more rain leaves two such states, and at every lead of their
-- forecasts there is at least as much too.
use Prim.Native.Nat.{ℕ, zero, suc, ◌+◌, ◌≤◌, ◌<◌}
use mathlib.Core.List.{List}
use mathlib.Core.Path.{◌≡◌, refl, sym, ap, ◌∙◌}
use native.Mathlib.Nat.{le_refl, add-le-add}
use native.Mathlib.Omega.{arith}
use lib.ListN.{length}
use Rattle.sizes.specs.Sizes.{most_places, state_numbers}
use Rattle.method.specs.declared.Figures.{Figures}
use Rattle.method.specs.Inflow.{no_inflow}
use Rattle.method.specs.AtLeast.{AtLeast}
use Rattle.method.proofs.OrderLaws.{as-much, more-step-inflow, more-forecast-inflow}
use Rattle.elements.specs.declared.Element.{Element}
use Rattle.elements.specs.Kinds.{basin}
use Rattle.elements.proofs.KindLaws.{kind-both}
use Rattle.table.specs.Tables.{TableValues}
use Rattle.record.specs.Records.{Input, input_at}
use Rattle.record.proofs.SameLaws.{rain-related, same-release, same-observation}
use Rattle.state.specs.declared.Rains.{Rains}
use Rattle.cells.specs.Cells.{cells}
use Rattle.record.proofs.CellInputs.{basins-same, dams-same, reading-same}
use Rattle.state.specs.States.{cell_figures, cell_rains, State, steps_of}
use Rattle.element_step.specs.ElementStep.{released, own_of}
use Rattle.element_step.specs.Rains.{shifted_rains}
use Rattle.network.specs.Step.{step_own, observed_in, no_observation, step_figures, stepped}
use Rattle.network.specs.Forecast.{rain_count, rain_sum, lead_inflow, forecast_own, lead_figures}
use Rattle.network.proofs.StepLaws.{stepped-length, stepped-steps, stepped-figures, stepped-rains}
use Rattle.more_rain.specs.MoreRain.{MoreRain}
use Rattle.more_rain.proofs.WalkLaws.{more-new-figures}

-- the last three rains of a basin
pub record MoreRains (r r* : Rains) : Type 0 where
  pub first : r.first ≤ r*.first
  pub second : r.second ≤ r*.second
  pub third : r.third ≤ r*.third

-- the sum of the last c
more-rain-sum : {r r* : Rains} → MoreRains r r* → (c : ℕ) → rain_sum r c ≤ rain_sum r* c
unfolding rain_sum
more-rain-sum m zero = le_refl 0
more-rain-sum m (suc zero) = m.first
more-rain-sum m (suc (suc zero)) = add-le-add m.first m.second
more-rain-sum m (suc (suc (suc c))) = add-le-add (add-le-add m.first m.second) m.third

pub record MoreWater (t : TableValues) (s s* : State) : Type 0 where
  pub steps : steps_of s ≡ steps_of s*
  pub rains : (i : ℕ) → i < (cells t).elements → ((cells t).element i).kind ≡ basin → MoreRains (cell_rains t s i) (cell_rains t s* i)
  pub figures : (i : ℕ) → i < (cells t).elements → AtLeast (cell_figures t s i) (cell_figures t s* i)
  pub full : length s ≡ state_numbers
  pub full* : length s* ≡ state_numbers

-- one fresh start for both
pub same_start : (t : TableValues) (s : State) → length s ≡ state_numbers → MoreWater t s s
same_start t s full =
    record {
      steps = refl;
      rains = λ i l k. record { first = le_refl _; second = le_refl _; third = le_refl _ };
      figures = λ i l. as-much (cell_figures t s i);
      full = full;
      full* = full;
    }

-- what an element has of its own: a basin's inflow, a dam's release with its W
more-own-of :
    (e : Element) {inflow inflow* : Figures} {release release* : ℕ}
    → (e.kind ≡ basin → AtLeast inflow inflow*)
    → release ≤ release*
    → AtLeast (own_of e.kind inflow (released e release)) (own_of e.kind inflow* (released e release*))
unfolding own_of released
more-own-of e p l =
    kind-both AtLeast e.kind p (λ _. as-much no_inflow) (λ _. record { discharge = l; variance = refl }) (λ _ _ _. as-much no_inflow)

module _ (t : TableValues) (few : (cells t).elements ≤ most_places) {s s* : State} (before : MoreWater t s s*) where
  -- ---- a step
  module _ (one other : List ℕ) (records : MoreRain t one other) where
    abbrev input : ℕ → Input
    input = input_at (cells t) one

    abbrev input* : ℕ → Input
    input* = input_at (cells t) other

    more-rain-in : (i : ℕ) → i < (cells t).elements → (input i).rain ≤ (input* i).rain
    unfolding input_at
    more-rain-in i l = rain-related (cells t) one other i (λ (a b : ℕ). a ≤ b) (le_refl 0) (rw (basins-same t) records.rains) l

    more-own : (i : ℕ) → i < (cells t).elements → AtLeast (step_own (cells t) input i) (step_own (cells t) input* i)
    unfolding step_own input_at
    more-own i l =
        more-own-of ((cells t).element i) (λ _. more-step-inflow _ _ (more-rain-in i l)) (omega (arith, same-release (cells t) one other i (rw (basins-same t, dams-same t) records.releases) l))

    same_seen : (i : ℕ) → i < (cells t).elements → observed_in input i ≡ observed_in input* i
    unfolding observed_in input_at cells
    same_seen i l = same-observation (cells t) one other i (λ k m _. reading-same t one k ∙ (records.readings k m ∙ sym (reading-same t other k))) t.gauges (omega arith)

    more-figures : (i : ℕ) → i < (cells t).elements → AtLeast (step_figures t input s i) (step_figures t input* s* i)
    unfolding step_figures
    more-figures =
        more-new-figures (cells t) (step_own (cells t) input) (step_own (cells t) input*) (observed_in input) (observed_in input*) (cell_figures t s) (cell_figures t s*) more-own
        same_seen before.figures

    more-rains :
        (i : ℕ)
        → i < (cells t).elements
        → ((cells t).element i).kind ≡ basin
        → MoreRains (shifted_rains (input i).rain (cell_rains t s i)) (shifted_rains (input* i).rain (cell_rains t s* i))
    unfolding shifted_rains
    more-rains i l k =
        let r = before.rains i l k in record { first = more-rain-in i l; second = r.first; third = r.second }

    pub more-stepped : MoreWater t (stepped t input s) (stepped t input* s*)
    more-stepped =
        record {
          steps =
              stepped-steps t input s before.full few
              ∙ (ap (λ (n : ℕ). n + 1) before.steps ∙ sym (stepped-steps t input* s* before.full* few));
          rains = λ i l k. rw (stepped-rains t input s before.full few i l k, stepped-rains t input* s* before.full* few i l k) (more-rains i l k);
          figures = λ i l. rw (stepped-figures t input s before.full few i l, stepped-figures t input* s* before.full* few i l) (more-figures i l);
          full = stepped-length t input s ∙ before.full;
          full* = stepped-length t input* s* ∙ before.full*;
        }

  -- ---- a forecast

  more-lead-own : (lead i : ℕ) → i < (cells t).elements → AtLeast (forecast_own t s lead i) (forecast_own t s* lead i)
  unfolding forecast_own lead_inflow
  more-lead-own lead i l =
      more-own-of ((cells t).element i)
      (λ k. rw before.steps (more-forecast-inflow _ _ _ lead _ (more-rain-sum (before.rains i l k) (rain_count (steps_of s*)))))
      (before.figures i l).discharge

  pub more-at-lead : (lead i : ℕ) → i < (cells t).elements → AtLeast (lead_figures t s lead i) (lead_figures t s* lead i)
  unfolding lead_figures
  more-at-lead zero i l = before.figures i l
  more-at-lead (suc lead) i l =
      more-new-figures (cells t) (forecast_own t s (suc lead)) (forecast_own t s* (suc lead)) no_observation no_observation (lead_figures t s lead)
      (lead_figures t s* lead) (more-lead-own (suc lead)) (λ k m. refl) (more-at-lead lead) i l
