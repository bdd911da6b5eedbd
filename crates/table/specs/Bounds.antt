-- What callers may rely on once rules 1 to 7 accept a table, and of a table of the basins, reaches and dams that a river is worked out by.
use Rattle.std.specs.Prelude.{ℕ, ◌+◌, ◌*◌, ◌≤◌, ◌<◌, List, ◌≡◌, length}
use Rattle.sizes.specs.Sizes.{most_elements, most_places, most_leads, most_gauges}
use Rattle.elements.specs.Bounds.{AcceptedElement, ElementBounds}
use Rattle.gauges.specs.Gauges.{gauge_place}
use Rattle.gauges.specs.Places.{Versioned}
use Rattle.gauges.specs.Bounds.{GaugeBounds}
use Rattle.table.specs.Tables.{TableValues}
use Rattle.table.specs.declared.Counts.{Counts}
use Rattle.table.specs.KindCounts.{basin_count, dam_count, extra_count}
use Rattle.table.specs.Decoded.{CountsHeld}
use Rattle.table.specs.InUse.{table_in}

-- of a table as accepted
pub record AcceptedBounds (t : TableValues) : Type 0 where
  pub step_least : 1 ≤ t.step
  pub leads_least : 1 ≤ t.leads
  pub leads_most : t.leads ≤ most_leads
  pub elements_least : 1 ≤ t.elements
  pub elements_most : t.elements ≤ most_elements
  pub extra_most : extra_count t ≤ 7 * t.elements
  pub places_most : t.elements + extra_count t ≤ most_places
  pub gauges_most : t.gauges ≤ most_gauges
  pub element : (i : ℕ) → i < t.elements → AcceptedElement t.step t.elements i (t.element i)
  pub gauge : (g : ℕ) → g < t.gauges → GaugeBounds t.elements (t.gauge g)
  pub rising : (g : ℕ) → g + 1 < t.gauges → (t.gauge g).element < (t.gauge (g + 1)).element

-- of a table of basins, reaches and dams, as many as a state has places
pub record TableBounds (t : TableValues) : Type 0 where
  pub step_least : 1 ≤ t.step
  pub leads_least : 1 ≤ t.leads
  pub leads_most : t.leads ≤ most_leads
  pub elements_least : 1 ≤ t.elements
  pub elements_most : t.elements ≤ most_places
  pub gauges_most : t.gauges ≤ most_gauges
  pub element : (i : ℕ) → i < t.elements → ElementBounds t.step t.elements i (t.element i)
  pub gauge : (g : ℕ) → g < t.gauges → GaugeBounds t.elements (t.gauge g)
  pub rising : (g : ℕ) → g + 1 < t.gauges → (t.gauge g).element < (t.gauge (g + 1)).element

-- the bytes of an accepted table: its version, its values in their ranges, and all its elements and gauges there
pub record AcceptedTable (bytes : List ℕ) : Type 0 where
  pub versioned : Versioned bytes
  pub bounds : AcceptedBounds (table_in bytes)
  pub elements : 26 * (table_in bytes).elements + 10 ≤ length bytes
  pub gauges : gauge_place bytes (table_in bytes).elements (table_in bytes).gauges ≤ length bytes

-- the bytes of an accepted table and its counts
pub record Counted (bytes : List ℕ) (counts : Counts) : Type 0 where
  pub table : AcceptedTable bytes
  pub held : CountsHeld counts (table_in bytes)
  pub basins : counts.basins ≡ basin_count (table_in bytes)
  pub dams : counts.dams ≡ dam_count (table_in bytes)

-- and how many of its tanks stand above the last of their elements
pub record CountedPlaces (bytes : List ℕ) (counts : Counts) : Type 0 where
  pub counted : Counted bytes counts
  pub extra : counts.extra ≡ extra_count (table_in bytes)

-- how many elements and gauges an accepted table has
pub record CountedTable (bytes : List ℕ) (n m : ℕ) : Type 0 where
  pub table : AcceptedTable bytes
  pub elements : n ≡ (table_in bytes).elements
  pub gauges : m ≡ (table_in bytes).gauges
