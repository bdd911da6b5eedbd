-- Serves the code: no figure that is handed out passes C (document 01, Numbers for no, 16).
use Rattle.std.specs.Prelude.{ℕ, ◌<◌, get_or, List}
use Rattle.method.specs.declared.Figures.{Figures}
use Rattle.method.specs.Figures.{FiguresFit}
use Rattle.method.specs.Inflow.{no_inflow}

-- the first so many, which are printed, are at most C each: those of a forecast that rule 16 lets through
pub record FiguresUnderCeiling (figures : List Figures) (count : ℕ) : Type 0 where
  pub at : (k : ℕ) → k < count → FiguresFit (get_or figures k no_inflow)
