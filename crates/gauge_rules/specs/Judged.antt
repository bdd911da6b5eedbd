-- Only serves the code: what is known of gauge g of a table with n elements when rule 7 comes to it.
use Rattle.std.specs.Prelude.{ℕ, List, ◌≡◌}
use Rattle.gauges.specs.Gauges.{gauge_at}
use Rattle.gauges.specs.Places.{GaugePlaced}
use Rattle.gauges.specs.Rules.{element_before}

pub record GaugeAfter (table : List ℕ) (n g above : ℕ) : Type 0 where
  pub placed : GaugePlaced table n g
  pub before : above ≡ element_before (gauge_at table n) g
