-- Only serves proofs: what they ask of an observation and its unrounded one.
use Rattle.rating.specs.declared.RatedReading.{RatedReading}
use Rattle.std.specs.Prelude.{◌≤◌, Option, Some, None}
use Rattle.units.specs.declared.Discharge.{Discharge}
use Rattle.units.specs.declared.Variance.{Variance}
use Rattle.weighting.specs.Estimates.{estimate}
use Rattle.exact.specs.Fraction.{Fraction}
use Rattle.exact.specs.Margins.{Tracks}
use Rattle.exact_run.specs.ExactStep.{ExactObservation, nothing, rated}

-- both nothing, or the same noise and a discharge within 1
pub data Observes : Option RatedReading → ExactObservation → Type 0 where
  no-reading : Observes None nothing
  reading :
      {z : Discharge} {noise : Variance} {z* : Fraction}
      → 1 ≤ noise.0
      → Tracks (estimate z.0 1) z*
      → Observes (Some (record { discharge = z; noise = noise })) (rated z* noise.0)
