-- Serves the code: the places of its working space, the figures of an element each.
use Rattle.std.specs.Prelude.{ℕ, ◌-◌, ◌*◌, ◌≤◌, ◌<◌, List, ◌≢◌, ◌≡◌, length, get_or, set}
use Rattle.sizes.specs.Sizes.{most_places}
use Rattle.units.specs.Units.{C}
use Rattle.method.specs.declared.Figures.{Figures}
use Rattle.method.specs.Figures.{FiguresFit}
use Rattle.method.specs.Inflow.{no_inflow, joined_inflow}

-- the figures at place p of a space, and those of an element put there
unfoldable pub figures_at : List Figures → ℕ → Figures
figures_at space p = get_or space p no_inflow

unfoldable pub put : List Figures → ℕ → Figures → List Figures
put space p f = set space p f

-- a space with nothing in it
pub record Empty (space : List Figures) : Type 0 where
  pub at : (p : ℕ) → figures_at space p ≡ no_inflow

-- figures added to the sums at a place
abbrev pub added : List Figures → ℕ → Figures → List Figures
added space p f = put space p (joined_inflow (figures_at space p) f)

-- the figures of an element put at one place, and added to the sums at another
abbrev pub put_and_added : List Figures → ℕ → ℕ → Figures → List Figures
put_and_added space here below f = put (put space here f) below (joined_inflow (figures_at space below) f)

-- what one element can let out, an old and a new figure; all elements together, and all but one
abbrev pub most_outflow : ℕ
most_outflow = 2 * C

abbrev pub most_sum : ℕ
most_sum = most_places * most_outflow

abbrev pub most_sum_before : ℕ
most_sum_before = (most_places - 1) * most_outflow

-- the numbers of a sum are at most b
pub record FiguresBelow (f : Figures) (b : ℕ) : Type 0 where
  pub discharge : f.discharge.0 ≤ b
  pub discharge_margin : f.discharge_margin.0 ≤ b
  pub variance : f.variance.0 ≤ b
  pub variance_margin : f.variance_margin.0 ≤ b

-- what putting and adding figures relies on
pub record PlacesReady (space : List Figures) (here below : ℕ) (f : Figures) : Type 0 where
  pub here_room : here < length space
  pub below_room : below < length space
  pub apart : below ≢ here
  pub small : FiguresBelow (figures_at space below) most_sum
  pub fits : FiguresFit f
