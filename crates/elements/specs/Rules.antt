-- Document 01, Numbers for no, 5 and 6, with the ranges of The table, and document 02, M-100 and M-107.
use Rattle.std.specs.Prelude.{ℕ, ◌+◌, ◌-◌, Bool, false, not, ◌&&◌, ◌||◌, cond, ltb, leb, eqb}
use Rattle.units.specs.Units.{C}
use Rattle.fields.specs.Ranges.{in_range}
use Rattle.elements.specs.declared.Element.{Element}
use Rattle.elements.specs.Kinds.{basin, tanks, same_kind, by_kind}

-- 5: "An element's kind or any field but down is out of range."
-- "Lag from T to 60,000."
unfoldable pub lag_fits : ℕ → Element → Bool
lag_fits T e = in_range e.lag T 60000

-- "Basin: area 1 to 400,000, f 0 to 1,000, G 0 to 100,000,000."
unfoldable pub basin_fits : Element → Bool
basin_fits e = (in_range e.area 1 400000 && in_range e.runoff 0 1000) && in_range e.rain_noise.0 0 100000000

-- "Reach: all three zero."
unfoldable pub reach_fits : Element → Bool
reach_fits e = (eqb e.area 0 && eqb e.runoff 0) && eqb e.rain_noise.0 0

-- M-100: "a dam: its lag, area, f and rain noise are zero"
unfoldable pub dam_fits : Element → Bool
dam_fits e = eqb e.lag 0 && reach_fits e

-- M-107: "kind 4 is a reach of 2 to 8 equal tanks, the count in the f field, area and rain noise zero"
unfoldable pub tanks_fit : Element → Bool
tanks_fit e = (eqb e.area 0 && in_range e.runoff 2 8) && eqb e.rain_noise.0 0

-- "kind (1; 1 basin, 2 reach)", M-100: "rule 5 admits the dam", M-107: "Rule 5 admits the kind", with a lag as a reach has one; another byte
-- is refused
unfoldable pub kind_fits : ℕ → Element → Bool
kind_fits T e =
    cond (same_kind e.kind tanks) (lag_fits T e && tanks_fit e)
    (by_kind e.kind (lag_fits T e && basin_fits e) (lag_fits T e && reach_fits e) (dam_fits e) false)

-- "W 0 to 100,000,000." "First values 0 to C."
unfoldable pub element_fits : ℕ → Element → Bool
element_fits T e =
    ((kind_fits T e && in_range e.first_discharge.0 0 C) && in_range e.first_variance.0 0 C)
    && in_range e.system_noise.0 0 100000000

-- 6: "A down is neither 0 nor a later element, or it names a basin.", of element i of n, counted from 0
unfoldable pub down_fits : ℕ → (ℕ → Element) → ℕ → Bool
down_fits n element i =
    let down = (element i).down in
    eqb down 0 || ((ltb (i + 1) down && leb down n) && not (same_kind (element (down - 1)).kind basin))
