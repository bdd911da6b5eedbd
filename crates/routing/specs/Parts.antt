-- Document 01, One step: the blends a and b on the way to the new variance, and the new figures in the order that the code judges them.
use Rattle.std.specs.Prelude.{ℕ, List, [], ◌∷◌}
use Rattle.refusal.specs.Answers.{Answer, and_then}
use Rattle.units.specs.Ceiling.{under_ceiling}
use Rattle.weighting.specs.declared.Estimate.{Estimate}
use Rattle.method.specs.declared.Figures.{Figures}
use Rattle.method.specs.Figures.{figures}
use Rattle.method.specs.Inflow.{inflow_answer}
use Rattle.method.specs.Routing.{old_variance_part, inflow_variance_part, routed_variance}

-- the first two of `variance_numbers`: rule 16 on "the margin .. of a blend on the way"
unfoldable pub part_margins : ℕ → Estimate → Estimate → List ℕ
part_margins H inflow old = (old_variance_part H old).margin ∷ (inflow_variance_part H inflow).margin ∷ []

-- the answer of the variance's move: its parts judged, itself not yet
abbrev pub parts_answer : ℕ → ℕ → Estimate → Estimate → Answer Estimate
parts_answer H W inflow old = under_ceiling (part_margins H inflow old) (routed_variance H W inflow old)

-- the figures of a discharge and of what the variance's move answers, judged
unfoldable pub routed_answer : Estimate → Answer Estimate → Answer Figures
routed_answer q answer = and_then answer (λ v. inflow_answer (figures q v))
