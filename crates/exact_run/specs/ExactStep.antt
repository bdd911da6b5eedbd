-- Document 01, The run in fractions: "The same steps with exact F, no [ ], no margins and no ceiling."; document 02, M-100: "The run in
-- fractions does the same with the same release, and its dam's variance after a step or lead is W too."
use Rattle.units.specs.declared.Stage.{Stage}
use Rattle.rating.specs.declared.RatedReading.{RatedReading}
use Rattle.std.specs.Prelude.{ℕ, List, Option, Some, None}
use Rattle.refusal.specs.Answers.{Answer, accepted, refused}
use Rattle.exact.specs.Fraction.{Fraction, whole}
use Rattle.exact.specs.Series.{F}
use Rattle.exact.specs.Exact.{ExactFigures, exact_routed, exact_corrected, exact_rated, exact_step_inflow, exact_nothing, exact_sum, exact_old_and_new_outflow, exact_reach_inflow}
use Rattle.elements.specs.declared.Element.{Element}
use Rattle.elements.specs.Kinds.{by_kind}
use Rattle.rating.specs.Rating.{pieces_of}
use Rattle.gauges.specs.declared.Gauge.{Gauge}
use Rattle.gauges.specs.Looks.{look_on}
use Rattle.table.specs.Tables.{TableValues}
use Rattle.record.specs.Records.{reading_at, at_element, input_rain, input_release}
use Rattle.walk.specs.Walk.{new_cell}
use Rattle.network.specs.Step.{network_down}
use Rattle.elements.specs.declared.Kind.{Kind}

-- what a gauge observes: nothing, or the unrounded discharge and the noise
pub data ExactObservation : Type 0 where
  nothing : ExactObservation
  rated : Fraction → ℕ → ExactObservation

unfoldable pub exact_reading : ℕ → Answer Fraction → ExactObservation
exact_reading R (accepted z) = rated z R
exact_reading R (refused n) = nothing

-- M-105: "This noise, from the whole-number z, is a given of both runs."
unfoldable pub given_noise : Answer RatedReading → ℕ
given_noise (accepted r) = r.noise.0
given_noise (refused n) = 0

unfoldable pub exact_observed : Gauge → Option Stage → ExactObservation
exact_observed gauge None = nothing
exact_observed gauge (Some h) = exact_reading (given_noise (look_on gauge h.0).answer) (exact_rated h.0 (pieces_of gauge.curve))

-- what a record brings element i: what the gauge at it observes, and what it has of its own
unfoldable pub exact_observation_in : TableValues → List ℕ → ℕ → ExactObservation
exact_observation_in t bytes i = at_element t nothing (λ g. exact_observed (t.gauge g) (reading_at t bytes g)) i t.gauges

-- of a dam and what it lets out
unfoldable pub exact_released : Element → Fraction → ExactFigures
exact_released e release = record { discharge = release; variance = whole e.system_noise.0 }

-- a basin has the inflow from its rain, a dam what it lets out
unfoldable pub exact_own_of : Option Kind → ExactFigures → ExactFigures → ExactFigures
exact_own_of kind inflow let_out = by_kind kind inflow exact_nothing let_out exact_nothing

unfoldable pub exact_own : TableValues → List ℕ → ℕ → ExactFigures
exact_own t bytes i =
    let e = t.element i in
    exact_own_of e.kind (exact_step_inflow (input_rain t bytes i) e.area e.runoff) (exact_released e (whole (input_release t bytes i)))

-- "A reading then takes these two as x and v"
unfoldable pub exact_corrected_by : ExactObservation → ExactFigures → ExactFigures
exact_corrected_by nothing x = x
exact_corrected_by (rated z R) x = exact_corrected R z x

-- an element that stores its inflow, a basin or a reach
unfoldable pub exact_stored : ℕ → Element → ExactObservation → ExactFigures → ExactFigures → ExactFigures
exact_stored T e o inflow old = exact_corrected_by o (exact_routed (F T e.lag) e.system_noise.0 inflow old)

-- any: a basin takes its own inflow, a reach that of the sums of what drains in; a dam lets out its release
unfoldable pub exact_element_step :
    ℕ → Element → ExactFigures → ExactObservation → ExactFigures → ExactFigures → ExactFigures
exact_element_step T e own o above old =
    by_kind e.kind (exact_stored T e o own old) (exact_stored T e o (exact_reach_inflow above) old) own exact_nothing

unfoldable pub exact_cell :
    TableValues → (ℕ → ExactFigures) → (ℕ → ExactObservation) → ℕ → ExactFigures → ExactFigures → ExactFigures
exact_cell t own o i above old = exact_element_step t.step (t.element i) (own i) (o i) above old

-- M-103: "the sum of old and new outflows above"
unfoldable pub exact_outflow : ℕ → ExactFigures → ExactFigures → ExactFigures
exact_outflow i old new = exact_old_and_new_outflow old new

-- the new figures of element i, after the walk down the network
unfoldable pub exact_new_figures :
    TableValues → (ℕ → ExactFigures) → (ℕ → ExactObservation) → (ℕ → ExactFigures) → ℕ → ExactFigures
exact_new_figures t own o old i = new_cell exact_nothing exact_sum (network_down t) (exact_cell t own o) exact_outflow old i
