-- Document 01, Series weight.
use Rattle.std.specs.Prelude.{ℕ, zero, suc, ◌-◌, ◌*◌, ◌/◌}
use Rattle.units.specs.Units.{S}

-- "for m from 12 down to 1, h becomes S − [T × h / (lag × m)]": h after the turns for m, .., 1
unfoldable pub turned : ℕ → ℕ → ℕ → ℕ → ℕ
turned T lag h zero = h
turned T lag h (suc m) = turned T lag (S - T * h / (lag * suc m)) m

-- "h starts at S .. The last h is H"
unfoldable pub weight : ℕ → ℕ → ℕ
weight T lag = turned T lag S 12
