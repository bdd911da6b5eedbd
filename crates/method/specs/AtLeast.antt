-- Document 02, M-106: two storms' figures at one place.
use Rattle.std.specs.Prelude.{◌≤◌, ◌≡◌}
use Rattle.method.specs.declared.Figures.{Figures}

-- "every discharge of the second .. is at least the first's, and the variances are equal. Margins may differ."
pub record AtLeast (first second : Figures) : Type 0 where
  pub discharge : first.discharge.0 ≤ second.discharge.0
  pub variance : first.variance.0 ≡ second.variance.0
