-- Serves the code: the weights of an accepted table's elements in lent numbers.
use Rattle.std.specs.Prelude.{ℕ, ◌≤◌, ◌<◌, List, ◌≡◌, length, get_or}
use Rattle.table.specs.declared.Counts.{Counts}
use Rattle.table.specs.Tables.{TableValues}
use Rattle.table.specs.Bounds.{AcceptedTable, CountedPlaces}
use Rattle.table.specs.InUse.{table_in}
use Rattle.cells.specs.Cells.{last_cell, cells}
use Rattle.network.specs.Step.{weight_of}

-- the weight of element i: of tanks each has "the element's lag", so that of its last cell is that of all
abbrev pub element_weight : TableValues → ℕ → ℕ
element_weight t i = weight_of (cells t) (last_cell t i)

-- T and N of an accepted table
pub record Weighable (bytes : List ℕ) (T n : ℕ) : Type 0 where
  pub table : AcceptedTable bytes
  pub step : T ≡ (table_in bytes).step
  pub elements : n ≡ (table_in bytes).elements

-- the weights of all elements stand in order
pub record WeightsHeld (t : TableValues) (weight : List ℕ) : Type 0 where
  pub room : t.elements ≤ length weight
  pub at : (i : ℕ) → i < t.elements → get_or weight i 0 ≡ element_weight t i

-- an element in use
pub record ElementKnown (bytes : List ℕ) (T i : ℕ) : Type 0 where
  pub table : AcceptedTable bytes
  pub step : T ≡ (table_in bytes).step
  pub used : i < (table_in bytes).elements

-- the counts of an accepted table, and the weights of its elements
pub record Weighed (bytes : List ℕ) (counts : Counts) (weight : List ℕ) : Type 0 where
  pub counted : CountedPlaces bytes counts
  pub weights : WeightsHeld (table_in bytes) weight
