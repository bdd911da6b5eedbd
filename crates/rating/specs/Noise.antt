-- Document 02, M-105: the noise of a reading follows its discharge.
use Rattle.std.specs.Prelude.{ℕ, ◌+◌, ◌*◌, ◌/◌}
use Rattle.refusal.specs.Answers.{Answer, accepted, refused}
use Rattle.units.specs.Units.{thousandths}
use Rattle.units.specs.declared.Discharge.{Discharge}
use Rattle.units.specs.declared.Variance.{Variance}
use Rattle.rating.specs.declared.RatedReading.{RatedReading}

-- "t = β × z / 1,000,000 rounded down": β thousandths of z, in 0.001 m³/s
unfoldable pub deviation : ℕ → ℕ → ℕ
deviation beta z = beta * z / 1000000

-- "the noise is R plus t × t / 1,000 rounded down"
unfoldable pub noise_of : ℕ → ℕ → ℕ → ℕ
noise_of R beta z = let t : ℕ = deviation beta z in R + t * t / 1000

-- "This noise, from the whole-number z": of what the curve gives a stage, z or 14
unfoldable pub with_noise : Variance → ℕ → Answer Discharge → Answer RatedReading
with_noise R beta (accepted z) = accepted (record { discharge = z; noise = thousandths (noise_of R.0 beta z.0) })
with_noise R beta (refused n) = refused n
