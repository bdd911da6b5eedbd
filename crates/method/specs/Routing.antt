-- Document 01, One step: the discharge and the variance of an element after the step, before a reading.
use Rattle.std.specs.Prelude.{ℕ, ◌+◌, ◌-◌, List, [], ◌∷◌}
use Rattle.refusal.specs.Answers.{Answer}
use Rattle.units.specs.Units.{S}
use Rattle.units.specs.Ceiling.{under_ceiling}
use Rattle.weighting.specs.declared.Estimate.{Estimate}
use Rattle.method.specs.declared.Figures.{Figures}
use Rattle.weighting.specs.Estimates.{estimate}
use Rattle.method.specs.Figures.{discharge, variance, figures}
use Rattle.weighting.specs.Blend.{blended}

-- "Discharge: blend of old discharge and inflow by H, weight margin 3."
unfoldable pub routed_discharge : ℕ → Figures → Figures → Estimate
routed_discharge H inflow old = blended H 3 (discharge old) (discharge inflow)

-- "Variance: a blends old variance with 0 (margin 0) by H"
unfoldable pub old_variance_part : ℕ → Estimate → Estimate
old_variance_part H old = blended H 3 old (estimate 0 0)

-- "b blends inflow variance with 0 by S − H"
unfoldable pub inflow_variance_part : ℕ → Estimate → Estimate
inflow_variance_part H inflow = blended (S - H) 3 inflow (estimate 0 0)

-- "then a and b blend by H, all with weight margin 3, and W is added to the value"
unfoldable pub routed_variance : ℕ → ℕ → Estimate → Estimate → Estimate
routed_variance H W inflow old =
    let v : Estimate = blended H 3 (old_variance_part H old) (inflow_variance_part H inflow) in
    estimate (v.value + W) v.margin

unfoldable pub routed : ℕ → ℕ → Figures → Figures → Figures
routed H W inflow old =
    figures (routed_discharge H inflow old) (routed_variance H W (variance inflow) (variance old))

-- rule 16: "Some .. variance .. or the margin of any of these or of a blend on the way, would pass C"
unfoldable pub variance_numbers : ℕ → ℕ → Estimate → Estimate → List ℕ
variance_numbers H W inflow old =
    let v : Estimate = routed_variance H W inflow old in
    (old_variance_part H old).margin ∷ (inflow_variance_part H inflow).margin ∷ v.margin ∷ v.value ∷ []

-- and the discharge with its margin
unfoldable pub routing_numbers : ℕ → ℕ → Figures → Figures → List ℕ
routing_numbers H W inflow old =
    let q : Estimate = routed_discharge H inflow old in
    q.value ∷ q.margin ∷ variance_numbers H W (variance inflow) (variance old)

unfoldable pub routing_answer : ℕ → ℕ → Figures → Figures → Answer Figures
routing_answer H W inflow old = under_ceiling (routing_numbers H W inflow old) (routed H W inflow old)
