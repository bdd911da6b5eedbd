-- The four figures of an element or of an inflow: discharge and variance, each with its margin.
use Rattle.refusal.specs.declared.Refusal.{Refusal}
use Prim.{Unit}
use Rattle.std.specs.Prelude.{ℕ, ◌≤◌, List, [], ◌∷◌, Result, Ok, Err}
use Rattle.units.specs.Units.{C, grains, thousandths}
use Rattle.weighting.specs.declared.Estimate.{Estimate}
use Rattle.weighting.specs.Estimates.{estimate}
use Rattle.method.specs.declared.Figures.{Figures}

abbrev pub discharge : Figures → Estimate
discharge f = estimate f.discharge.0 f.discharge_margin.0

abbrev pub variance : Figures → Estimate
variance f = estimate f.variance.0 f.variance_margin.0

abbrev pub figures : Estimate → Estimate → Figures
figures q v =
    record {
      discharge = grains q.value;
      discharge_margin = grains q.margin;
      variance = thousandths v.value;
      variance_margin = thousandths v.margin;
    }

-- all four, as numbers
abbrev pub figure_numbers : Figures → List ℕ
figure_numbers f = f.discharge.0 ∷ f.discharge_margin.0 ∷ f.variance.0 ∷ f.variance_margin.0 ∷ []

-- of several, one after the other, as an answer hands them out: "discharge, margin, variance, variance margin"
unfoldable pub layout : List Figures → List ℕ
layout [] = []
layout (f ∷ fs) = f.discharge.0 ∷ f.discharge_margin.0 ∷ f.variance.0 ∷ f.variance_margin.0 ∷ layout fs

-- what callers may rely on: no number passes the ceiling
pub record FiguresFit (f : Figures) : Type 0 where
  pub discharge : f.discharge.0 ≤ C
  pub discharge_margin : f.discharge_margin.0 ≤ C
  pub variance : f.variance.0 ≤ C
  pub variance_margin : f.variance_margin.0 ≤ C

unfoldable pub AnsweredFiguresFit : Result Figures Refusal → Type 0
AnsweredFiguresFit (Ok f) = FiguresFit f
AnsweredFiguresFit (Err r) = Unit
