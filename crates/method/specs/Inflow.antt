-- Document 01, One step and Forecast, and document 02, M-103: what flows into an element, and rule 16 for it.
use Rattle.std.specs.Prelude.{ℕ, ◌+◌, ◌*◌, ◌/◌, cond, List, eqb}
use Rattle.refusal.specs.Answers.{Answer}
use Rattle.units.specs.Ceiling.{under_ceiling}
use Rattle.method.specs.declared.Figures.{Figures}
use Rattle.weighting.specs.Estimates.{estimate}
use Rattle.method.specs.Figures.{discharge, variance, figures, figure_numbers}

-- One step: "Basin inflow: [5 × rain × area × f / 18], margin 1, inflow variance 0 with margin 0."
unfoldable pub step_inflow : ℕ → ℕ → ℕ → Figures
step_inflow rain area f = figures (estimate (5 * rain * area * f / 18) 1) (estimate 0 0)

-- One step: "the sums .. of all elements draining into it, 0 if none."
unfoldable pub no_inflow : Figures
no_inflow = figures (estimate 0 0) (estimate 0 0)

unfoldable pub joined_inflow : Figures → Figures → Figures
joined_inflow x y =
    figures
    (estimate (x.discharge.0 + y.discharge.0) (x.discharge_margin.0 + y.discharge_margin.0))
    (estimate (x.variance.0 + y.variance.0) (x.variance_margin.0 + y.variance_margin.0))

-- M-103: "the sum of old and new outflows above", with "the sum of their margins", and "Inflow variance remains the sum of the new ones.":
-- of the old outflow discharge and margin count, of the new one all figures
unfoldable pub old_outflow : Figures → Figures
old_outflow old = figures (discharge old) (estimate 0 0)

unfoldable pub old_and_new_outflow : Figures → Figures → Figures
old_and_new_outflow old new = joined_inflow (old_outflow old) new

-- M-103: "Reach inflow becomes half the sum of old and new outflows above, rounded down. Its margin is half the sum of their margins,
-- rounded down, plus 1", of the sums
unfoldable pub reach_inflow : Figures → Figures
reach_inflow above = figures (estimate (above.discharge.0 / 2) (above.discharge_margin.0 / 2 + 1)) (variance above)

-- Forecast: "Basin inflow is [5 × s × area × f / (18 × c)] .. where c is 0 the inflow is 0"
unfoldable pub mean_rain_inflow : ℕ → ℕ → ℕ → ℕ → ℕ
mean_rain_inflow s c area f = cond (eqb c 0) 0 (5 * s * area * f / (18 * c))

-- ".. margin 1 .. Its variance at the first lead is G, at the second 2 × G and so on, margin 0."
unfoldable pub forecast_inflow : ℕ → ℕ → ℕ → ℕ → ℕ → ℕ → Figures
forecast_inflow s c area f lead G = figures (estimate (mean_rain_inflow s c area f) 1) (estimate (lead * G) 0)

-- rule 16: "Some inflow, inflow variance .. or the margin of any of these .. would pass C"
unfoldable pub inflow_numbers : Figures → List ℕ
inflow_numbers i = figure_numbers i

unfoldable pub inflow_answer : Figures → Answer Figures
inflow_answer i = under_ceiling (inflow_numbers i) i
