-- Document 02, M-107: "kind 4 is a reach of 2 to 8 equal tanks, the count in the f field". A river is worked out by its cells: a basin, a
-- reach and a dam are one cell each; of a reach of tanks each tank is one, a reach by itself. Cells go down the river as elements do, the tanks
-- of an element one after the other, the uppermost first. Elements, cells and gauges are counted from 0, unless they go by their numbers.
use Rattle.std.specs.Prelude.{ℕ, zero, suc, ◌+◌, ◌-◌, cond, leb, eqb}
use Rattle.units.specs.Units.{thousandths}
use Rattle.elements.specs.declared.Element.{Element}
use Rattle.elements.specs.Kinds.{reach, tanks, same_kind}
use Rattle.gauges.specs.declared.Gauge.{Gauge}
use Rattle.elements.specs.Elements.{no_element}
use Rattle.table.specs.Tables.{TableValues}
use Rattle.table.specs.KindCounts.{extra_before, extra_count}
use Rattle.table.specs.InUse.{below}

-- the first and the last cell of element i
abbrev pub first_cell : TableValues → ℕ → ℕ
first_cell t i = i + extra_before t i

unfoldable pub last_cell : TableValues → ℕ → ℕ
last_cell t i = i + extra_before t (suc i)

-- the number of the last cell of element number e
abbrev pub last_number : TableValues → ℕ → ℕ
last_number t e = last_cell t (e - 1) + 1

-- the element that cell c is of: of the first n, the last whose cells begin at c or before it
unfoldable pub element_among : TableValues → ℕ → ℕ → ℕ
element_among t zero c = 0
element_among t (suc n) c = cond (leb (first_cell t n) c) n (element_among t n c)

unfoldable pub element_of : TableValues → ℕ → ℕ
element_of t c = element_among t t.elements c

-- a tank: a reach "with the element's lag"; "Each starts from the element's first values, W is added in every tank"
unfoldable pub tank_of : Element → ℕ → Element
tank_of e down = record e { kind = reach; down = down; area = 0; runoff = 0; rain_noise = thousandths 0 }

-- an element that is one cell
unfoldable pub draining_into : Element → ℕ → Element
draining_into e down = record e { down = down }

-- the number of the cell that water draining into element number d comes to: its first; 0 for an outlet
unfoldable pub inlet_of : TableValues → ℕ → ℕ
inlet_of t zero = 0
inlet_of t (suc i) = first_cell t i + 1

-- the last cell of an element drains where the element drains; every other tank into the next one
unfoldable pub last_of : TableValues → Element → Element
last_of t e = cond (same_kind e.kind tanks) (tank_of e (inlet_of t e.down)) (draining_into e (inlet_of t e.down))

unfoldable pub cell_at : TableValues → ℕ → Element
cell_at t c =
    let i = element_of t c in
    cond (eqb c (last_cell t i)) (last_of t (t.element i)) (tank_of (t.element i) (c + 2))

-- "a gauge corrects the last"
unfoldable pub gauge_of : TableValues → Gauge → Gauge
gauge_of t g = record g { element = last_cell t (g.element - 1) + 1 }

-- the river's cells, as a table of basins, reaches and dams
unfoldable pub cells : TableValues → TableValues
cells t =
    record t {
      elements = t.elements + extra_count t;
      element = below (t.elements + extra_count t) no_element (cell_at t);
      gauge = λ g. gauge_of t (t.gauge g);
    }

-- where cell c stands in a state: an element's last cell at the element's place, the other tanks after the N elements, in order
unfoldable pub cell_place : TableValues → ℕ → ℕ
cell_place t c =
    let i = element_of t c in
    cond (eqb c (last_cell t i)) i (t.elements + (c - i))
