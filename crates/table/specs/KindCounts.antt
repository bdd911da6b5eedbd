-- Document 01, The table: "kind (1; 1 basin, 2 reach)"; document 02, M-100: "kind 3, a dam"; M-107: "kind 4 is a reach of 2 to 8 equal tanks".
-- How many basins and dams a table has, and how many tanks above the last of their elements.
use Rattle.std.specs.Prelude.{ℕ, zero, suc, ◌+◌, Option}
use Rattle.elements.specs.Kinds.{basin_of, dam_of, extra_tanks}
use Rattle.table.specs.Tables.{TableValues}
use Rattle.elements.specs.declared.Kind.{Kind}

-- among the first i elements, by what a kind counts
unfoldable pub count_before : (Option Kind → ℕ) → TableValues → ℕ → ℕ
count_before of t zero = 0
count_before of t (suc i) = count_before of t i + of (t.element i).kind

abbrev pub basins_before : TableValues → ℕ → ℕ
basins_before t i = count_before basin_of t i

abbrev pub dams_before : TableValues → ℕ → ℕ
dams_before t i = count_before dam_of t i

-- in all
abbrev pub basin_count : TableValues → ℕ
basin_count t = basins_before t t.elements

abbrev pub dam_count : TableValues → ℕ
dam_count t = dams_before t t.elements

-- M-108: "extra tanks", of the first i elements and in all
unfoldable pub extra_before : TableValues → ℕ → ℕ
extra_before t zero = 0
extra_before t (suc i) = extra_before t i + extra_tanks (t.element i)

abbrev pub extra_count : TableValues → ℕ
extra_count t = extra_before t t.elements
