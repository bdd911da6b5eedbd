-- Document 01, Forecast: "From the state, which is kept, leads 1 to L are steps without readings.", and document 02, M-100.
use Rattle.std.specs.Prelude.{ℕ, zero, suc, ◌+◌, min, List, [], ◌++◌}
use Rattle.method.specs.declared.Figures.{Figures}
use Rattle.method.specs.Inflow.{forecast_inflow}
use Rattle.table.specs.Tables.{TableValues}
use Rattle.state.specs.declared.Rains.{Rains}
use Rattle.cells.specs.Cells.{cells}
use Rattle.state.specs.States.{State, steps_of, cell_figures, cell_rains}
use Rattle.element_step.specs.ElementStep.{released, own_of}
use Rattle.network.specs.Step.{new_figures, network_numbers, no_observation}

-- "c is the smaller of 3 and the step count"
unfoldable pub rain_count : ℕ → ℕ
rain_count steps = min 3 steps

-- "s the sum of the last c rains"
unfoldable pub rain_sum : Rains → ℕ → ℕ
rain_sum r zero = 0
rain_sum r (suc zero) = r.first
rain_sum r (suc (suc zero)) = r.first + r.second
rain_sum r (suc (suc (suc c))) = r.first + r.second + r.third

-- "Basin inflow is [5 × s × area × f / (18 × c)] .. Its variance at the first lead is G, at the second 2 × G and so on"
unfoldable pub lead_inflow : TableValues → State → ℕ → ℕ → Figures
lead_inflow t s lead i =
    let c : ℕ = rain_count (steps_of s) in
    let e = (cells t).element i in
    forecast_inflow (rain_sum (cell_rains t s i) c) c e.area e.runoff lead e.rain_noise.0

-- M-100: "The state's discharge is held through leads 1 to L, margin 0"
unfoldable pub forecast_own : TableValues → State → ℕ → ℕ → Figures
forecast_own t s lead i =
    let e = (cells t).element i in own_of e.kind (lead_inflow t s lead i) (released e (cell_figures t s i).discharge.0)

-- the figures of each element at a lead; lead 0 is the state itself
unfoldable pub lead_figures : TableValues → State → ℕ → ℕ → Figures
lead_figures t s zero = cell_figures t s
lead_figures t s (suc lead) = new_figures (cells t) (forecast_own t s (suc lead)) no_observation (lead_figures t s lead)

-- 16, of the first leads
unfoldable pub lead_numbers : TableValues → State → ℕ → List ℕ
lead_numbers t s zero = []
lead_numbers t s (suc lead) =
    lead_numbers t s lead
    ++ network_numbers (cells t) (forecast_own t s (suc lead)) no_observation (lead_figures t s lead) (cells t).elements
