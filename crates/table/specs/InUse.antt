-- The places of a table that are in use; what lies beyond them is taken as empty.
use Rattle.std.specs.Prelude.{ℕ, cond, List, ltb}
use Rattle.elements.specs.Elements.{no_element}
use Rattle.gauges.specs.Gauges.{no_gauge}
use Rattle.table.specs.Tables.{TableValues, table_of}

-- a function below n, and a default from n on
unfoldable pub below : {A : Type 0} → ℕ → A → (ℕ → A) → ℕ → A
below n none f i = cond (ltb i n) (f i) none

unfoldable pub in_use : TableValues → TableValues
in_use t = record t { element = below t.elements no_element t.element; gauge = below t.gauges no_gauge t.gauge }

-- what a table's bytes say of the places in use
unfoldable pub table_in : List ℕ → TableValues
table_in bytes = in_use (table_of bytes)
