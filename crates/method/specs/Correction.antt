-- Document 01, Reading: the correction of an element by the discharge z that its gauge gives. R is the noise of the reading, which by M-105
-- (document 02) is more than the gauge's R where β is above 0.
use Rattle.std.specs.Prelude.{ℕ, ◌+◌, ◌-◌, ◌*◌, ◌/◌, min, List, [], ◌∷◌}
use Rattle.refusal.specs.Answers.{Answer}
use Rattle.units.specs.Units.{S}
use Rattle.units.specs.Ceiling.{under_ceiling}
use Rattle.weighting.specs.declared.Estimate.{Estimate}
use Rattle.method.specs.declared.Figures.{Figures}
use Rattle.weighting.specs.Estimates.{estimate}
use Rattle.method.specs.Figures.{discharge, variance, figures}
use Rattle.weighting.specs.Blend.{blended}

-- "Gain K = [S P / (P + R)]", P being the variance
unfoldable pub gain : ℕ → ℕ → ℕ
gain R P = S * P / (P + R)

-- "gain margin k = the smaller of S and [S D / (P + R)] + 2", P and D "being variance and margin"
unfoldable pub gain_margin : ℕ → Estimate → ℕ
gain_margin R v = min S (S * v.margin / (v.value + R) + 2)

-- "Discharge: blend of it and z by S − K with weight margin k", z with "margin 1"
unfoldable pub corrected_discharge : ℕ → ℕ → Figures → Estimate
corrected_discharge R z x =
    blended (S - gain R (variance x).value) (gain_margin R (variance x)) (discharge x) (estimate z 1)

-- "Variance [P R / (P + R)], margin [D R / (P + R)] + 2"
unfoldable pub corrected_variance : ℕ → Estimate → Estimate
corrected_variance R v = estimate (v.value * R / (v.value + R)) (v.margin * R / (v.value + R) + 2)

unfoldable pub corrected : ℕ → ℕ → Figures → Figures
corrected R z x = figures (corrected_discharge R z x) (corrected_variance R (variance x))

-- rule 16: "Some .. discharge or variance .. after correction, or the margin of any of these .. would pass C"
unfoldable pub correction_numbers : ℕ → ℕ → Figures → List ℕ
correction_numbers R z x =
    let q : Estimate = corrected_discharge R z x in
    let v : Estimate = corrected_variance R (variance x) in
    q.value ∷ q.margin ∷ v.value ∷ v.margin ∷ []

unfoldable pub correction_answer : ℕ → ℕ → Figures → Answer Figures
correction_answer R z x = under_ceiling (correction_numbers R z x) (corrected R z x)
