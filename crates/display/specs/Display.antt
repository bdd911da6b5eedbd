-- Document 02, M-104: "For the display each forecast figure becomes a record of discharge and margin as floats, the grain count turned into a
-- float exactly and divided once by 1,000,000."
use Rattle.std.specs.Prelude.{ℕ, [], ◌∷◌, Float, pos}
use Rattle.std.specs.Float.{binary64}
use Rattle.std.specs.Float.Ieee.{div, of_int}
use Rattle.refusal.specs.Answers.{Answer}
use Rattle.units.specs.Ceiling.{under_ceiling}
use Rattle.display.specs.declared.Shown.{Shown}

-- a count of grains in m³/s: one division of two floats, rounded once by IEEE 754's rule (lib.Ieee); proofs/DisplayLaws.antt shows that
-- the two floats are the count and 1,000,000 exactly, so that the answer is the float nearest to their quotient
unfoldable pub cubic_metres : ℕ → Float
cubic_metres grains = div binary64 (of_int binary64 (pos grains)) (of_int binary64 (pos 1_000_000))

unfoldable pub shown : ℕ → ℕ → Shown
shown discharge margin = record { discharge = cubic_metres discharge; margin = cubic_metres margin }

-- a count above C, which no forecast hands out, is refused 16
unfoldable pub show_answer : ℕ → ℕ → Answer Shown
show_answer discharge margin = under_ceiling (discharge ∷ (margin ∷ [])) (shown discharge margin)
