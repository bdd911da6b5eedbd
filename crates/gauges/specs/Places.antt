-- Only serves the code: where a gauge stands in a table.
use Rattle.std.specs.Prelude.{ℕ, ◌+◌, ◌≤◌, List, ◌⊎◌, ◌≡◌, length}
use Rattle.sizes.specs.Sizes.{most_elements, most_gauges}
use Rattle.gauges.specs.Gauges.{table_version, gauge_size, gauge_place}

-- the header is there, and its version is one that rule 2 admits
pub record Versioned (table : List ℕ) : Type 0 where
  pub header : 10 ≤ length table
  pub version : (table_version table ≡ 1) ⊎ (table_version table ≡ 2)

-- all bytes of the gauge at a place are there: those of version 1, and all that its version has
pub record GaugeThere (table : List ℕ) (at : ℕ) : Type 0 where
  pub small : at ≤ 99000
  pub whole : at + 46 ≤ length table
  pub last : at + gauge_size table ≤ length table

-- and of gauge g, counted from 0, of a table with n elements
pub record GaugePlaced (table : List ℕ) (n g : ℕ) : Type 0 where
  pub versioned : Versioned table
  pub elements : n ≤ most_elements
  pub gauges : g ≤ most_gauges
  pub whole : gauge_place table n g + gauge_size table ≤ length table
