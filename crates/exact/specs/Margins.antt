-- What the theorems claim of a whole number and the fraction that it stands for.
use Rattle.method.specs.declared.Figures.{Figures}
use Rattle.weighting.specs.declared.Estimate.{Estimate}
use Rattle.method.specs.Figures.{discharge, variance}
use Rattle.exact.specs.Fraction.{Fraction, whole, ◌≼◌, Within}
use Rattle.exact.specs.Exact.{ExactFigures}

-- the fraction is not below 0, and the estimate's value is within its margin of it
pub record Tracks (e : Estimate) (x : Fraction) : Type 0 where
  pub least : whole 0 ≼ x
  pub within : Within e.value x e.margin

-- both figures of an element or of an inflow are within their margins
pub record Follows (f : Figures) (x : ExactFigures) : Type 0 where
  pub discharge : Tracks (discharge f) x.discharge
  pub variance : Tracks (variance f) x.variance
