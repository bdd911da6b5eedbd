-- Document 01, One step, and document 02, M-100, M-103 and M-105: what one element takes in, how it moves, how a reading corrects it, what a
-- dam lets out.
use Rattle.rating.specs.declared.RatedReading.{RatedReading}
use Rattle.std.specs.Prelude.{ℕ, List, [], ◌∷◌, ◌++◌, Option, Some, None}
use Rattle.weighting.specs.Estimates.{estimate}
use Rattle.method.specs.declared.Figures.{Figures}
use Rattle.method.specs.Figures.{figures, figure_numbers}
use Rattle.method.specs.Inflow.{no_inflow, reach_inflow, inflow_numbers}
use Rattle.method.specs.Routing.{routed, routing_numbers}
use Rattle.method.specs.Correction.{corrected, correction_numbers}
use Rattle.elements.specs.declared.Element.{Element}
use Rattle.elements.specs.Kinds.{by_kind}
use Rattle.elements.specs.declared.Kind.{Kind}

-- M-100: "Its discharge is the release, margin 0, and its variance is W, margin 0.", of a dam and its release
unfoldable pub released : Element → ℕ → Figures
released e release = figures (estimate release 0) (estimate e.system_noise.0 0)

-- what an element has of its own: a basin the inflow from its rain, a dam what it lets out
unfoldable pub own_of : Option Kind → Figures → Figures → Figures
own_of kind inflow let_out = by_kind kind inflow no_inflow let_out no_inflow

-- "A reading then corrects the element before anything below it is worked out."
unfoldable pub corrected_by : Option RatedReading → Figures → Figures
corrected_by None x = x
corrected_by (Some r) x = corrected r.noise.0 r.discharge.0 x

-- the move of an element with the weight H
unfoldable pub moved : ℕ → Element → Figures → Figures → Figures
moved H e inflow old = routed H e.system_noise.0 inflow old

-- the new figures of an element that stores its inflow, a basin or a reach
unfoldable pub stored : ℕ → Element → Option RatedReading → Figures → Figures → Figures
stored H e o inflow old = corrected_by o (moved H e inflow old)

-- the new figures of any element, from what it has of its own, an observation, the sums of what drains into it, and its old figures: a
-- basin takes its own inflow, a reach that of the sums; a dam lets out what it has of its own, M-100: "water draining into it ends there"
unfoldable pub element_step : ℕ → Element → Figures → Option RatedReading → Figures → Figures → Figures
element_step H e own o above old =
    by_kind e.kind (stored H e o own old) (stored H e o (reach_inflow above) old) own no_inflow

-- 16: "Some inflow, inflow variance, discharge or variance of this call, before or after correction, or the margin of any of
-- these or of a blend on the way", of one element; M-105: "A noise above the ceiling is refused as 16"
unfoldable pub observation_numbers : Option RatedReading → Figures → List ℕ
observation_numbers None x = []
observation_numbers (Some r) x = r.noise.0 ∷ correction_numbers r.noise.0 r.discharge.0 x

unfoldable pub move_numbers : ℕ → Element → Option RatedReading → Figures → Figures → List ℕ
move_numbers H e o inflow old =
    routing_numbers H e.system_noise.0 inflow old ++ observation_numbers o (moved H e inflow old)

unfoldable pub stored_numbers : ℕ → Element → Option RatedReading → Figures → Figures → List ℕ
stored_numbers H e o inflow old = inflow_numbers inflow ++ move_numbers H e o inflow old

-- the inflow of a reach is the half, so that the sums are not judged; M-100: "a dam has no inflow, for rule 16 either": its discharge, its
-- variance and their margins alone
unfoldable pub element_numbers : ℕ → Element → Figures → Option RatedReading → Figures → Figures → List ℕ
element_numbers H e own o above old =
    by_kind e.kind (stored_numbers H e o own old) (stored_numbers H e o (reach_inflow above) old) (figure_numbers own) []
