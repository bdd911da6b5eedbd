-- Document 02, M-104: a reading in metres "becomes whole millimetres", so that equal readings in either version of a record give equal
-- figures. Gauges, basins and dams are counted from 0.
use Rattle.std.specs.Prelude.{ℕ, ◌<◌, true, List, ◌≡◌}
use Rattle.table.specs.Tables.{TableValues}
use Rattle.table.specs.KindCounts.{basin_count, dam_count}
use Rattle.record.specs.Records.{rain_at, release_at, reading_at}
use Rattle.record.specs.Rules.{version_fits, length_kept, stages_fit, floats_fit}

-- a record of either version: what 10, 11, 13 and 18 ask of it
pub record OfEitherVersion (t : TableValues) (bytes : List ℕ) : Type 0 where
  pub length : length_kept t bytes ≡ true
  pub version : version_fits bytes ≡ true
  pub stages : stages_fit t bytes ≡ true
  pub floats : floats_fit t bytes ≡ true

-- the same rains, releases and readings, each a stage in millimetres or a gap
pub record SameReadings (t : TableValues) (one other : List ℕ) : Type 0 where
  pub rains : (k : ℕ) → k < basin_count t → rain_at one k ≡ rain_at other k
  pub releases : (k : ℕ) → k < dam_count t → release_at one (basin_count t) k ≡ release_at other (basin_count t) k
  pub readings : (g : ℕ) → g < t.gauges → reading_at t one g ≡ reading_at t other g
