-- The step of the whole network stays within its margins of the step in fractions.
use Rattle.rating.specs.declared.RatedReading.{RatedReading}
use Rattle.std.specs.Prelude.{Option}
use Prim.Native.Nat.{ℕ, ◌≤◌, ◌<◌}
use Rattle.weighting.specs.Weight.{weight}
use Rattle.method.specs.declared.Figures.{Figures}
use Rattle.method.specs.Inflow.{no_inflow, joined_inflow}
use Rattle.exact.specs.Exact.{ExactFigures, exact_nothing, exact_sum}
use Rattle.exact.specs.Margins.{Follows}
use Rattle.exact.proofs.Theorems.{correction-near, no-inflow-near, joined-inflow-near, old-and-new-near, reach-inflow-near, routing-near}
use Rattle.elements.specs.declared.Element.{Element}
use Rattle.elements.proofs.KindLaws.{by-basin, by-reach, kind-both}
use Rattle.table.specs.Tables.{TableValues}
use Rattle.table.specs.Bounds.{TableBounds}
use Rattle.walk.specs.Walk.{gathered, new_cell, outflow}
use Rattle.walk.proofs.WalkLaws.{new-cell-kept}
use Rattle.element_step.specs.ElementStep.{corrected_by, moved, stored, element_step}
use Rattle.network.specs.Step.{weight_of, network_down, network_cell, network_outflow, new_figures}
use Rattle.exact_run.specs.ExactStep.{ExactObservation, exact_corrected_by, exact_stored, exact_element_step, exact_cell, exact_outflow, exact_new_figures}
use Rattle.exact_run.specs.Following.{Observes, no-reading, reading}

corrected-follows :
    {o : Option RatedReading} {o* : ExactObservation} {x : Figures} {x* : ExactFigures}
    → Observes o o*
    → Follows x x*
    → Follows (corrected_by o x) (exact_corrected_by o* x*)
unfolding corrected_by exact_corrected_by
corrected-follows no-reading f = f
corrected-follows (reading least near) f = correction-near least near f

-- an element that stores water
stored-follows :
    (T : ℕ) (e : Element) {o : Option RatedReading} {o* : ExactObservation} {inflow old : Figures} {inflow* old* : ExactFigures}
    → 1 ≤ T
    → (T ≤ e.lag) × (e.lag ≤ 60000)
    → Observes o o*
    → Follows inflow inflow*
    → Follows old old*
    → Follows (stored (weight T e.lag) e o inflow old) (exact_stored T e o* inflow* old*)
unfolding stored moved exact_stored
stored-follows T e least lag seen i x =
    corrected-follows seen (routing-near T e.lag e.system_noise.0 least lag.0 lag.1 i x)

-- from figures and what each element has of its own that follow, and observations that do, to new figures that follow, at every element
pub step-near :
    (t : TableValues) (own : ℕ → Figures) (o : ℕ → (Option RatedReading)) (old : ℕ → Figures) (own* : ℕ → ExactFigures)
    (o* : ℕ → ExactObservation) (old* : ℕ → ExactFigures)
    → TableBounds t
    → ((i : ℕ) → i < t.elements → Follows (own i) (own* i))
    → ((i : ℕ) → i < t.elements → Observes (o i) (o* i))
    → ((i : ℕ) → i < t.elements → Follows (old i) (old* i))
    → (i : ℕ)
    → i < t.elements
    → Follows (new_figures t own o old i) (exact_new_figures t own* o* old* i)
unfolding new_figures exact_new_figures new_cell outflow network_outflow exact_outflow network_cell exact_cell element_step exact_element_step weight_of
step-near t own o old own* o* old* b hown ho hold =
    new-cell-kept (λ _. Follows) no_inflow joined_inflow exact_nothing exact_sum (λ _. no-inflow-near)
    (λ _ a c d e. joined-inflow-near) (λ _. Follows) (network_down t) (network_cell t own o) network_outflow old (exact_cell t own* o*) exact_outflow old*
    t.elements cell out
  where
    cell :
        (i : ℕ)
        → i < t.elements
        → Follows (gathered no_inflow joined_inflow (network_down t) (network_cell t own o) network_outflow old i) (gathered exact_nothing exact_sum (network_down t) (exact_cell t own* o*) exact_outflow old* i)
        → Follows (new_cell no_inflow joined_inflow (network_down t) (network_cell t own o) network_outflow old i) (new_cell exact_nothing exact_sum (network_down t) (exact_cell t own* o*) exact_outflow old* i)
    cell i l g =
        let e = t.element i in
        let lag = (b.element i l).lag in
        let H = weight t.step e.lag in
        kind-both Follows e.kind
        (λ k. rw (by-basin e.kind H H 0 0 k) (stored-follows t.step e b.step_least (lag (λ d. cc)) (ho i l) (hown i l) (hold i l)))
        (λ k. rw (by-reach e.kind H H 0 0 k) (stored-follows t.step e b.step_least (lag (λ d. cc)) (ho i l) (reach-inflow-near g) (hold i l)))
        (λ _. hown i l) (λ _ _ _. no-inflow-near)

    out :
        (i : ℕ)
        → i < t.elements
        → Follows (new_cell no_inflow joined_inflow (network_down t) (network_cell t own o) network_outflow old i) (new_cell exact_nothing exact_sum (network_down t) (exact_cell t own* o*) exact_outflow old* i)
        → Follows (outflow no_inflow joined_inflow (network_down t) (network_cell t own o) network_outflow old i) (outflow exact_nothing exact_sum (network_down t) (exact_cell t own* o*) exact_outflow old* i)
    out i l h = old-and-new-near (hold i l) h
