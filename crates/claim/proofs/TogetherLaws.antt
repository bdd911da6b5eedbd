-- The two runs side by side: a start brings them together, and an accepted step keeps them so.
use Prim.Native.Nat.{ℕ, suc, ◌+◌, ◌*◌, ◌≤◌, ◌<◌}
use mathlib.Core.Bool.{Bool, false}
use mathlib.Core.List.{List}
use mathlib.Core.Path.{◌≡◌, refl, ap, ◌∙◌}
use native.Mathlib.Numerals.{add-one}
use native.Mathlib.Omega.{arith}
use lib.ListN.{length}
use Rattle.sizes.specs.Sizes.{state_numbers}
use Rattle.method.specs.declared.Figures.{Figures}
use Rattle.method.specs.Inflow.{step_inflow, no_inflow}
use Rattle.elements.proofs.KindLaws.{kind-cases}
use Rattle.table.specs.Tables.{TableValues}
use Rattle.table.specs.Bounds.{AcceptedBounds}
use Rattle.record.specs.Records.{Input, input_at}
use Rattle.cells.specs.Cells.{cells}
use Rattle.cells.proofs.BoundsLaws.{cells-bounds}
use Rattle.entries.proofs.CellRules.{cells-kept}
use Rattle.state.specs.States.{State, steps_of, cell_figures}
use Rattle.state.specs.Start.{first_figures, started}
use Rattle.state.proofs.StateLaws.{started-length, started-figures}
use Rattle.state.proofs.BoundsLaws.{state-bounds}
use Rattle.element_step.specs.ElementStep.{released, own_of}
use Rattle.network.specs.Step.{network_down, observed_in, step_own, step_figures, stepped, step_numbers}
use Rattle.network.proofs.StepLaws.{stepped-length, stepped-steps, stepped-figures}
use Rattle.entries.proofs.NextLaws.{Stepping}
use Rattle.exact_run.specs.ExactForecast.{ExactState}
use Rattle.exact_run.specs.ExactRun.{exact_started, exact_stepped}
use Rattle.exact_run.specs.Limit.{at_or_above, NoReading}
use Rattle.exact_run.proofs.ForecastNear.{Agrees}
use Rattle.exact_run.proofs.RunNear.{start-agrees, step-agrees}
use Rattle.exact_run.proofs.LimitLaws.{limit-step}
use Rattle.claim.specs.CabinetRun.{has_reading_after}
use Rattle.claim.proofs.CeilingLaws.{own-under, above-under}
use Rattle.claim.proofs.ReadingLaws.{readings-stay}
use Rattle.claim.proofs.CellReadings.{at_its_element, cell-readings-stay, cell-not-observed}

-- the limit after n steps and leads, at cell i counted from 0
abbrev pub Limited : TableValues → (ℕ → Bool) → ℕ → ℕ → Figures → Type 0
Limited t has_reading n i f =
    NoReading (cells t).elements (network_down (cells t)) (at_its_element t has_reading) (i + 1)
    → f.discharge_margin.0 ≤ 16 * n * at_or_above (cells t).elements (network_down (cells t)) (i + 1)

-- the state and the readings so far of the cabinet's run, and the state of the run in fractions; no reading at number 0, the
-- outlet
pub record Together (t : TableValues) (s : State) (x : ExactState) (has_reading : ℕ → Bool) : Type 0 where
  pub agrees : Agrees t s x
  pub full : length s ≡ state_numbers
  pub outlet : has_reading 0 ≡ false
  pub limit : (i : ℕ) → i < (cells t).elements → Limited t has_reading (steps_of s) i (cell_figures t s i)

-- after a start
module _ (t : TableValues) (any : State) (b : AcceptedBounds t) (full : length any ≡ state_numbers) where
  -- "margins 0"
  no-margin : (i : ℕ) → i < (cells t).elements → (cell_figures t (started t any) i).discharge_margin.0 ≡ 0
  unfolding first_figures
  no-margin i l = ap (λ (f : Figures). f.discharge_margin.0) (started-figures t any full (cells-bounds t b).elements_most i l)

  pub start-together : Together t (started t any) (exact_started (cells t)) (λ k. false)
  start-together =
      record {
        agrees = start-agrees t any (cells-bounds t b) full;
        full = started-length t any full (cells-bounds t b).elements_most;
        outlet = refl;
        limit = λ i l q. omega (arith, no-margin i l);
      }

-- after an accepted step
module _
    (t : TableValues) (bytes : List ℕ) (s : State) (x : ExactState) (has_reading : ℕ → Bool) (b : AcceptedBounds t)
    (step : Stepping t bytes s) (before : Together t s x has_reading) where
  abbrev input : ℕ → Input
  input = input_at (cells t) bytes

  -- what an element has of its own has margin 1 or none
  own-margin : (i : ℕ) → (step_own (cells t) input i).discharge_margin.0 ≤ 1
  unfolding step_own own_of step_inflow released no_inflow
  own-margin i =
      kind-cases (λ (f : Figures). f.discharge_margin.0 ≤ 1) ((cells t).element i).kind (λ _. omega arith) (λ _. omega arith) (λ _. omega arith)
      (λ _ _ _. omega arith)

  -- the new figures are under the limit
  new-low :
      (i : ℕ)
      → i < (cells t).elements
      → Limited t (has_reading_after t bytes has_reading) (suc (steps_of s)) i (step_figures t input s i)
  unfolding step_figures step_numbers
  new-low =
      limit-step (cells t) (step_own (cells t) input) (observed_in input) (cell_figures t s) (at_its_element t has_reading)
      (at_its_element t (has_reading_after t bytes has_reading)) (steps_of s) (cells-bounds t b)
      (omega (arith, (state-bounds t s step.fits).steps))
      (λ i l. ((state-bounds t s step.fits).figures i l).discharge)
      (own-under (cells t) (step_own (cells t) input) (observed_in input) (cell_figures t s) step.under)
      (above-under (cells t) (step_own (cells t) input) (observed_in input) (cell_figures t s) step.under)
      (λ i l. own-margin i)
      (cell-readings-stay t _ _ (readings-stay t bytes has_reading before.outlet))
      (cell-not-observed t b bytes has_reading)
      before.limit

  -- and are what the state holds after the step
  new-margin :
      (i : ℕ)
      → i < (cells t).elements
      → (cell_figures t (stepped t input s) i).discharge_margin.0 ≡ (step_figures t input s i).discharge_margin.0
  new-margin i l =
      ap (λ (f : Figures). f.discharge_margin.0) (stepped-figures t input s before.full (cells-bounds t b).elements_most i l)

  -- no reading comes in at the outlet
  outlet-on : has_reading_after t bytes has_reading 0 ≡ false
  unfolding has_reading_after
  outlet-on = refl

  step-low :
      (i : ℕ)
      → i < (cells t).elements
      → Limited t (has_reading_after t bytes has_reading) (steps_of (stepped t input s)) i (cell_figures t (stepped t input s) i)
  step-low i l q =
      rw (new-margin i l, stepped-steps t input s before.full (cells-bounds t b).elements_most, add-one (steps_of s)) (new-low i l q)

  pub step-together : Together t (stepped t input s) (exact_stepped (cells t) bytes x) (has_reading_after t bytes has_reading)
  step-together =
      record {
        agrees = step-agrees t s (cells-bounds t b) before.full bytes x (cells-kept t bytes step.kept) before.agrees;
        full = stepped-length t input s ∙ before.full;
        outlet = outlet-on;
        limit = step-low;
      }
