-- What callers may rely on once rule 7 accepts a gauge.
use Rattle.std.specs.Prelude.{ℕ, ◌≤◌, List}
use Rattle.sizes.specs.Sizes.{most_elements}
use Rattle.rating.specs.Rating.{CurveFits}
use Rattle.rating.specs.Bounds.{NoiseInRange}
use Rattle.gauges.specs.declared.Gauge.{Gauge}
use Rattle.gauges.specs.Gauges.{gauge_at}
use Rattle.gauges.specs.Places.{GaugePlaced}

-- of a gauge among n elements
pub record GaugeBounds (n : ℕ) (g : Gauge) : Type 0 where
  pub element_least : 1 ≤ g.element
  pub element_most : g.element ≤ n
  pub noise : NoiseInRange g.noise.0 g.beta
  pub curve : CurveFits g.curve

-- gauge g of a table with n elements: its bytes are there, and rule 7 accepts it
pub record GaugeKnown (table : List ℕ) (n g : ℕ) : Type 0 where
  pub placed : GaugePlaced table n g
  pub bounds : GaugeBounds most_elements (gauge_at table n g)
