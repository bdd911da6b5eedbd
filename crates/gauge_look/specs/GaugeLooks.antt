-- A stage on the curve of one gauge, by itself (the call `rate`, docs/DECISIONS.md): rules 1 to 7, 13, 14 and, of the noise, 16; and M-101's
-- number of pieces.
use Rattle.units.specs.declared.Stage.{Stage}
use Rattle.rating.specs.declared.RatedReading.{RatedReading}
use Rattle.std.specs.Prelude.{ℕ, ◌-◌, cond, List, [], ◌∷◌, leb, Option, Some, None}
use Rattle.refusal.specs.Answers.{Answer, accepted, refused, and_then}
use Rattle.units.specs.Units.{grains, thousandths}
use Rattle.units.specs.Ceiling.{under_ceiling}
use Rattle.rating.specs.Looks.{Look}
use Rattle.gauges.specs.Looks.{look_on}
use Rattle.fields.specs.Ranges.{in_range}
use Rattle.table.specs.Tables.{TableValues}
use Rattle.table.specs.Rules.{table_rules}
use Rattle.table.specs.InUse.{table_in}
use Rattle.record.specs.Records.{reading_of}

-- no curve is looked along: no piece is read
unfoldable pub no_look : Answer RatedReading → Look
no_look answer = record { answer = answer; pieces = 0 }

abbrev pub no_reading : RatedReading
no_reading = record { discharge = grains 0; noise = thousandths 0 }

-- M-105: "A noise above the ceiling is refused as 16", with the number of pieces that were read
unfoldable pub noise_judged : RatedReading → Answer RatedReading
noise_judged r = under_ceiling (r.noise.0 ∷ []) r

unfoldable pub judged_look : Look → Look
judged_look look = record { answer = and_then look.answer noise_judged; pieces = look.pieces }

-- gauge k of the table, counted from 1; there is none to look along where k is not 1 to M
unfoldable pub gauge_look : TableValues → ℕ → ℕ → Look
gauge_look t k h = cond (in_range k 1 t.gauges) (judged_look (look_on (t.gauge (k - 1)) h)) (no_look (accepted no_reading))

-- "0 to 30,000 mm or 65535 for a gap"; 13: "A stage is above 30,000 and not 65535."
unfoldable pub reading_look : TableValues → ℕ → Option Stage → Look
reading_look t k None = no_look (accepted no_reading)
reading_look t k (Some h) = cond (leb h.0 30000) (gauge_look t k h.0) (no_look (refused 13))

-- the stage field, on the bytes of a table
unfoldable pub rating_after : Answer TableValues → ℕ → ℕ → Look
rating_after (accepted t) k field = reading_look t k (reading_of field)
rating_after (refused n) k field = no_look (refused n)

unfoldable pub rating_answer : List ℕ → ℕ → ℕ → Look
rating_answer table k field = rating_after (table_rules table (accepted (table_in table))) k field
