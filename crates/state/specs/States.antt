-- Document 01, Forecast: "The state keeps N, the step count, each element's discharge, variance and two margins, and each
-- basin's last three rains, latest first". It is a list of numbers that the caller lends; these names read and change it.
use Rattle.std.specs.Prelude.{ℕ, zero, suc, ◌+◌, ◌*◌, List, get_or, set, Option}
use Rattle.sizes.specs.Sizes.{place_numbers}
use Rattle.units.specs.Units.{grains, thousandths}
use Rattle.method.specs.declared.Figures.{Figures}
use Rattle.elements.specs.Kinds.{by_kind}
use Rattle.table.specs.Tables.{TableValues}
use Rattle.cells.specs.Cells.{cell_place}
use Rattle.state.specs.declared.Rains.{Rains}
use Rattle.elements.specs.declared.Kind.{Kind}

abbrev pub State : Type 0
State = List ℕ

-- N, and the step count
abbrev pub elements_of : State → ℕ
elements_of s = get_or s 0 0

abbrev pub steps_of : State → ℕ
steps_of s = get_or s 1 0

-- where the numbers of element i, counted from 0, begin
abbrev pub place_start : ℕ → ℕ
place_start i = place_numbers * i + 2

-- "each element's discharge, variance and two margins"
unfoldable pub figures_of : State → ℕ → Figures
figures_of s i =
    record {
      discharge = grains (get_or s (place_start i) 0);
      discharge_margin = grains (get_or s (place_start i + 1) 0);
      variance = thousandths (get_or s (place_start i + 2) 0);
      variance_margin = thousandths (get_or s (place_start i + 3) 0);
    }

-- "last three rains, latest first"
unfoldable pub rains_of : State → ℕ → Rains
rains_of s i =
    record {
      first = get_or s (place_start i + 4) 0;
      second = get_or s (place_start i + 5) 0;
      third = get_or s (place_start i + 6) 0;
    }

-- of cell c of a river
abbrev pub cell_figures : TableValues → State → ℕ → Figures
cell_figures t s c = figures_of s (cell_place t c)

abbrev pub cell_rains : TableValues → State → ℕ → Rains
cell_rains t s c = rains_of s (cell_place t c)

-- what the state keeps of one element
pub record ElementState : Type 0 where
  pub figures : Figures
  pub rains : Rains

unfoldable pub place_of : State → ℕ → ElementState
place_of s i = record { figures = figures_of s i; rains = rains_of s i }

-- the state with another N, another step count, other figures or other rains of element i
abbrev pub put_elements : State → ℕ → State
put_elements s n = set s 0 n

abbrev pub put_steps : State → ℕ → State
put_steps s n = set s 1 n

unfoldable pub put_figures : State → ℕ → Figures → State
put_figures s i f =
    set
    (set (set (set s (place_start i) f.discharge.0) (place_start i + 1) f.discharge_margin.0) (place_start i + 2) f.variance.0)
    (place_start i + 3) f.variance_margin.0

unfoldable pub put_rains : State → ℕ → Rains → State
put_rains s i r =
    set (set (set s (place_start i + 4) r.first) (place_start i + 5) r.second) (place_start i + 6) r.third

-- the place of element i after a start or a step: its figures, and a basin's rains; "A reach's rain places, if kept, are neither
-- read nor changed.", M-100: a dam's "rain places are as a reach's"
unfoldable pub put_place : Option Kind → Figures → Rains → ℕ → State → State
put_place kind f r i s = by_kind kind (put_rains (put_figures s i f) i r) (put_figures s i f) (put_figures s i f) (put_figures s i f)

-- the first n places changed, one after the other; "What it holds beyond its first N elements is neither read nor changed."
unfoldable pub changed : (ℕ → State → State) → ℕ → State → State
changed change zero s = s
changed change (suc n) s = change n (changed change n s)

-- figures at places from x on: number j of them at place x + j
abbrev pub figures_put : (ℕ → Figures) → ℕ → ℕ → State → State
figures_put f x j s = put_figures s (x + j) (f j)

abbrev pub no_rains : Rains
no_rains = record { first = 0; second = 0; third = 0 }
