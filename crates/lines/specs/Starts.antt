-- Serves the code: the lines of an element, by how each of them starts: with the step count and the element.
use Rattle.std.specs.Prelude.{ℕ, ◌+◌, ◌*◌, List, ◌∷◌, ◌++◌, get_or}
use Rattle.method.specs.declared.Figures.{Figures}
use Rattle.method.specs.Figures.{figure_numbers}
use Rattle.method.specs.Inflow.{no_inflow}
use Rattle.text.specs.Lines.{line}
use Rattle.lines.specs.Printed.{joined}

unfoldable pub line_after : List ℕ → ℕ → Figures → List ℕ
line_after start lead f = start ++ line (lead ∷ figure_numbers f)

-- the lines of element i, where the answer has so many leads of each element
unfoldable pub lines_after : List ℕ → ℕ → List Figures → ℕ → List ℕ
lines_after start leads figures i = joined (λ lead. line_after start lead (get_or figures (i * leads + lead) no_inflow)) leads
