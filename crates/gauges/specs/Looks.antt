-- Document 02, M-101 and M-105: the look along the curve of a gauge.
use Rattle.std.specs.Prelude.{ℕ}
use Rattle.refusal.specs.Answers.{Answer}
use Rattle.units.specs.declared.Discharge.{Discharge}
use Rattle.rating.specs.Rating.{pieces_of, rated}
use Rattle.rating.specs.Noise.{with_noise}
use Rattle.rating.specs.Looks.{Look, piece_number}
use Rattle.gauges.specs.declared.Gauge.{Gauge}

-- z or 14, with the noise by the gauge's R and β, and the number of pieces
unfoldable pub look_by : Gauge → Answer Discharge → ℕ → Look
look_by gauge z pieces = record { answer = with_noise gauge.noise gauge.beta z; pieces = pieces }

-- of a stage: z by the piece that 01 takes, and the number of that piece
unfoldable pub look_on : Gauge → ℕ → Look
look_on gauge h = let pieces = pieces_of gauge.curve in look_by gauge (rated h pieces) (piece_number h pieces)
