-- What callers may rely on: the ranges of a gauge's noise once rule 7 accepts it, and those of a rated stage.
use Rattle.std.specs.Prelude.{ℕ, ◌≤◌, ◌≡◌}
use Rattle.refusal.specs.Answers.{Answer, accepted, refused}
use Rattle.units.specs.Units.{C}
use Rattle.units.specs.declared.Discharge.{Discharge}

-- R and β
pub record NoiseInRange (R beta : ℕ) : Type 0 where
  pub noise_least : 1 ≤ R
  pub noise_most : R ≤ C
  pub beta_most : beta ≤ 500

-- a stage is rated, under the ceiling, or refused by rule 14
unfoldable pub RatingFits : Answer Discharge → Type 0
RatingFits (accepted z) = z.0 ≤ C
RatingFits (refused n) = n ≡ 14
