-- What one element answers: its new figures, or 16.
use Rattle.rating.specs.declared.RatedReading.{RatedReading}
use Rattle.std.specs.Prelude.{ℕ, ◌++◌, Option}
use Rattle.refusal.specs.Answers.{Answer}
use Rattle.units.specs.Ceiling.{under_ceiling}
use Rattle.method.specs.declared.Figures.{Figures}
use Rattle.method.specs.Inflow.{inflow_numbers}
use Rattle.method.specs.Routing.{routing_numbers}
use Rattle.inflow.specs.Basin.{basin_inflow}
use Rattle.elements.specs.declared.Element.{Element}
use Rattle.element_step.specs.declared.Intake.{Intake}
use Rattle.element_step.specs.ElementStep.{
  released,
  own_of,
  corrected_by,
  moved,
  stored,
  element_step,
  observation_numbers,
  stored_numbers,
  element_numbers,
}

-- the correction by what its gauge observed
unfoldable pub corrected_answer : Option RatedReading → Figures → Answer Figures
corrected_answer o x = under_ceiling (observation_numbers o x) (corrected_by o x)

-- an inflow, and the move with it
unfoldable pub moved_answer : ℕ → Element → Figures → Figures → Answer Figures
moved_answer H e inflow old =
    under_ceiling (inflow_numbers inflow ++ routing_numbers H e.system_noise.0 inflow old) (moved H e inflow old)

-- an inflow, the move and the correction
unfoldable pub stored_answer : ℕ → Element → Option RatedReading → Figures → Figures → Answer Figures
stored_answer H e o inflow old = under_ceiling (stored_numbers H e o inflow old) (stored H e o inflow old)

-- what it has of its own: a basin's inflow at a step (lead 0) or at a lead, a dam's release
unfoldable pub own_at : Element → ℕ → ℕ → Figures
own_at e own lead = own_of e.kind (basin_inflow own lead e.rain_noise.0) (released e own)

-- the whole
unfoldable pub element_answer : ℕ → Element → Intake → Figures → Answer Figures
element_answer H e intake old =
    under_ceiling (element_numbers H e (own_at e intake.own intake.lead) intake.observation intake.above old)
    (element_step H e (own_at e intake.own intake.lead) intake.observation intake.above old)
