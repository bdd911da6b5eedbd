-- Document 01, One step and Forecast: the figures of a basin's inflow, of its rain inflow.
use Rattle.std.specs.Prelude.{ℕ, ◌*◌}
use Rattle.weighting.specs.Estimates.{estimate}
use Rattle.method.specs.declared.Figures.{Figures}
use Rattle.method.specs.Figures.{figures}

-- "margin 1 .. Its variance at the first lead is G, at the second 2 × G and so on, margin 0"; at a step, lead 0 here, it is 0
unfoldable pub basin_inflow : ℕ → ℕ → ℕ → Figures
basin_inflow rain_inflow lead G = figures (estimate rain_inflow 1) (estimate (lead * G) 0)
