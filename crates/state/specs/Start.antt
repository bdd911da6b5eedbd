-- Document 01, Forecast: starting.
use Rattle.std.specs.Prelude.{ℕ}
use Rattle.weighting.specs.Estimates.{estimate}
use Rattle.method.specs.declared.Figures.{Figures}
use Rattle.method.specs.Figures.{figures}
use Rattle.elements.specs.declared.Element.{Element}
use Rattle.table.specs.Tables.{TableValues}
use Rattle.cells.specs.Cells.{cells, cell_place}
use Rattle.state.specs.States.{State, no_rains, put_elements, put_steps, put_place, changed}

-- "the first values, margins 0"
unfoldable pub first_figures : Element → Figures
first_figures e = figures (estimate e.first_discharge.0 0) (estimate e.first_variance.0 0)

-- ".. and rains 0"
unfoldable pub first_put : Element → ℕ → State → State
first_put e = put_place e.kind (first_figures e) no_rains

-- "Starting sets any state it is given to N, step count 0, the first values, margins 0 and rains 0."
unfoldable pub started : TableValues → State → State
started t s =
    put_steps (put_elements (changed (λ c. first_put ((cells t).element c) (cell_place t c)) (cells t).elements s) t.elements) 0
