-- Serves the code: what it may rely on once rule 8 accepts a state.
use Rattle.std.specs.Prelude.{ℕ, ◌≤◌, ◌<◌, ◌≡◌}
use Rattle.method.specs.Figures.{FiguresFit}
use Rattle.elements.specs.Kinds.{basin}
use Rattle.table.specs.Tables.{TableValues}
use Rattle.cells.specs.Cells.{cells}
use Rattle.state.specs.declared.Rains.{Rains}
use Rattle.state.specs.States.{State, elements_of, steps_of, cell_figures, cell_rains}

-- the rains of a basin
pub record RainsUnder (rains : Rains) : Type 0 where
  pub first : rains.first ≤ 3000
  pub second : rains.second ≤ 3000
  pub third : rains.third ≤ 3000

pub record StateBounds (t : TableValues) (s : State) : Type 0 where
  pub elements : elements_of s ≡ t.elements
  pub steps : steps_of s ≤ 10000
  pub figures : (c : ℕ) → c < (cells t).elements → FiguresFit (cell_figures t s c)
  pub rains : (c : ℕ) → c < (cells t).elements → ((cells t).element c).kind ≡ basin → RainsUnder (cell_rains t s c)
