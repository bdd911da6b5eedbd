-- Serves the code: the rows of its working space, by the river's cells. Row 0 has what leaves the river, row e what element number e waits for
-- and then its figures; the tanks above the last of their element stand in rows after these.
use Prim.{Unit}
use Rattle.std.specs.Prelude.{ℕ, zero, suc, ◌+◌, cond, ◌≡◌, eqb}
use Rattle.table.specs.Tables.{TableValues}
use Rattle.cells.specs.Cells.{first_cell, last_cell, element_of, cell_place}
use Rattle.lead_walk.specs.Network.{Inlet, row, closed}

-- at the turn of no element: the first cell of each waits in the element's row, and into no other anything drains
unfoldable pub resting : TableValues → ℕ → Inlet
resting t zero = row 0
resting t (suc c) = let e = element_of t c in cond (eqb c (first_cell t e)) (row (e + 1)) closed

-- the last cell of its element
abbrev pub IsLast : TableValues → ℕ → Type 0
IsLast t c = c ≡ last_cell t (element_of t c)

-- the row of its figures
abbrev pub own_row : TableValues → ℕ → ℕ
own_row t c = element_of t c + 1

-- a step keeps the figures of every cell, each in a row of its own, in the order of their places in the state
abbrev pub EveryCell : ℕ → Type 0
EveryCell c = Unit

abbrev pub cell_row : TableValues → ℕ → ℕ
cell_row t c = cell_place t c + 1
