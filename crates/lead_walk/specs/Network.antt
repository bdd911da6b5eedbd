-- Serves the code: what its working space holds after the first i elements, each worked out through all its leads; a step is one lead. A space
-- has rows, one for the sums that an element waits for and then for its figures.
use Rattle.rating.specs.declared.RatedReading.{RatedReading}
use Rattle.std.specs.Prelude.{ℕ, ◌+◌, ◌*◌, ◌<◌, false, cond, List, ◌≡◌, eqb, Option}
use Rattle.units.specs.Ceiling.{some_passes}
use Rattle.method.specs.declared.Figures.{Figures}
use Rattle.method.specs.Figures.{FiguresFit}
use Rattle.method.specs.Inflow.{no_inflow, joined_inflow}
use Rattle.table.specs.Tables.{TableValues}
use Rattle.walk.specs.Space.{Held}
use Rattle.network.specs.Step.{network_down, network_cell, network_outflow, new_figures, network_numbers}
use Rattle.answer_space.specs.Places.{figures_at}

-- where the sums of an element stand whose turn has not come: in a row of the space, or nowhere, while nothing drains into it
pub data Inlet : Type 0 where
  row : ℕ → Inlet
  closed : Inlet

-- inlets with that of number k in row r
unfoldable pub opening : (ℕ → Inlet) → ℕ → ℕ → ℕ → Inlet
opening inlet k r n = cond (eqb n k) (row r) (inlet n)

-- what each element has of its own and its old figures by lead and element, observations by element; rows of w places, the first lead of a
-- row at `from`; the elements whose figures are kept, and their rows
module _
    (t : TableValues) (own : ℕ → ℕ → Figures) (o : ℕ → (Option RatedReading)) (old : ℕ → ℕ → Figures) (w from : ℕ) (Kept : ℕ → Type 0)
    (at : ℕ → ℕ) where
  -- what stands in a row at a lead
  abbrev pub row_at : ℕ → List Figures → ℕ → Figures
  row_at l space r = figures_at space (r * w + from + l)

  abbrev pub cell_at : ℕ → List Figures → ℕ → Figures
  cell_at l space k = row_at l space (at k)

  unfoldable pub inlet_at : ℕ → List Figures → Inlet → Figures
  inlet_at l space (row r) = row_at l space r
  inlet_at l space closed = no_inflow

  abbrev pub sum_at : (ℕ → Inlet) → ℕ → List Figures → ℕ → Figures
  sum_at inlet l space k = inlet_at l space (inlet k)

  abbrev pub new_at : ℕ → ℕ → Figures
  new_at l = new_figures t (own l) o (old l)

  abbrev pub numbers_at : ℕ → ℕ → List ℕ
  numbers_at l = network_numbers t (own l) o (old l)

  abbrev pub HeldAt : (ℕ → Inlet) → ℕ → List Figures → ℕ → Type 0
  HeldAt inlet l = Held Kept (cell_at l) (sum_at inlet l) no_inflow joined_inflow (network_down t) (network_cell t (own l) o) network_outflow (old l)

  -- the first i elements are worked out at all leads
  pub record Walked (inlet : ℕ → Inlet) (leads i : ℕ) (space : List Figures) : Type 0 where
    pub held : (l : ℕ) → l < leads → HeldAt inlet l space i
    pub old_fits : (l j : ℕ) → l < leads → j < i → FiguresFit (old l j)
    pub fits : (l j : ℕ) → l < leads → j < i → FiguresFit (new_at l j)
    pub under : (l : ℕ) → l < leads → some_passes (numbers_at l i) ≡ false
