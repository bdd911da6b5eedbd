-- Document 02, M-105: "version 1 means β 0": a table of version 1 and the table of version 2 that has the same numbers and β 0. Elements and
-- gauges are counted from 0.
use Rattle.std.specs.Prelude.{ℕ, ◌<◌, true, List, ◌≡◌}
use Rattle.gauges.specs.declared.Gauge.{Gauge}
use Rattle.gauges.specs.Gauges.{table_version}
use Rattle.table.specs.Tables.{TableValues, table_of}
use Rattle.table.specs.Rules.{length_fits, size_fits}

-- a table of a version, as long as 1 and 4 ask
pub record OfVersion (version : ℕ) (bytes : List ℕ) : Type 0 where
  pub is : table_version bytes ≡ version
  pub length : length_fits bytes ≡ true
  pub size : size_fits bytes (table_of bytes) ≡ true

-- the same numbers of a gauge, but for β
pub record SameGauge (one other : Gauge) : Type 0 where
  pub element : one.element ≡ other.element
  pub noise : one.noise ≡ other.noise
  pub curve : one.curve ≡ other.curve

-- the same T, L, N, M, elements and gauges, and in the second β 0
pub record SameNumbers (one other : TableValues) : Type 0 where
  pub step : one.step ≡ other.step
  pub leads : one.leads ≡ other.leads
  pub elements : one.elements ≡ other.elements
  pub gauges : one.gauges ≡ other.gauges
  pub element : (i : ℕ) → i < one.elements → one.element i ≡ other.element i
  pub gauge : (g : ℕ) → g < one.gauges → SameGauge (one.gauge g) (other.gauge g)
  pub no_beta : (g : ℕ) → g < one.gauges → (other.gauge g).beta ≡ 0
