-- The weights of the elements; the state after a step: what its names read.
use Rattle.rating.specs.declared.RatedReading.{RatedReading}
use Rattle.std.specs.Prelude.{Option}
use Prim.Native.Nat.{ℕ, ◌+◌, ◌≤◌, ◌<◌}
use mathlib.Core.Path.{◌≡◌, refl, ap, ◌∙◌}
use native.Mathlib.Omega.{arith}
use lib.ListN.{length, length-set}
use lib.Seq.{get_or-set_same, get_or-set_other}
use Rattle.sizes.specs.Sizes.{most_places, state_numbers}
use Rattle.method.specs.declared.Figures.{Figures}
use Rattle.units.specs.Units.{S}
use Rattle.weighting.proofs.WeightLaws.{weight-most}
use Rattle.elements.specs.Kinds.{basin, dam}
use Rattle.elements.proofs.KindLaws.{by-dam, kind-cases}
use Rattle.table.specs.Tables.{TableValues}
use Rattle.record.specs.Records.{Input}
use Rattle.state.specs.States.{State, ElementState, elements_of, steps_of, cell_figures, cell_rains, place_of, changed}
use Rattle.cells.specs.Cells.{cells, cell_place}
use Rattle.state.proofs.StateLaws.{PutsPlaces, puts-each, put-place-figures, put-place-rains, changed-length, changed-elements, head-kept}
use Rattle.walk.specs.Walk.{new_cell}
use Rattle.element_step.specs.ElementStep.{element_step}
use Rattle.element_step.specs.Rains.{shifted_rains}
use Rattle.network.specs.Step.{weight_of, network_cell, new_figures, step_figures, step_put, stepped}

pub weight-of-most : (t : TableValues) (i : ℕ) → weight_of t i ≤ S
unfolding weight_of
weight-of-most t i =
    kind-cases (λ (w : ℕ). w ≤ S) (t.element i).kind (λ _. weight-most _ _) (λ _. weight-most _ _) (λ _. omega arith) (λ _ _ _. omega arith)

-- a dam lets out what it has of its own
pub dam-lets-out :
    (t : TableValues) (own : ℕ → Figures) (o : ℕ → (Option RatedReading)) (old : ℕ → Figures) (i : ℕ)
    → (t.element i).kind ≡ dam
    → new_figures t own o old i ≡ own i
unfolding new_figures new_cell network_cell element_step
dam-lets-out t own o old i k = by-dam (t.element i).kind _ _ _ _ k

module _ (t : TableValues) (input : ℕ → Input) (s : State) where
  pub step-puts :
      PutsPlaces t (step_put t input s) (step_figures t input s) (λ i. shifted_rains (input i).rain (cell_rains t s i))
  unfolding step_put
  step-puts = record { at = λ i now. refl }

  abbrev places : State
  places = changed (step_put t input s) (cells t).elements s

  pub stepped-elements : elements_of (stepped t input s) ≡ elements_of s
  unfolding stepped
  stepped-elements =
      get_or-set_other places 1 0 (steps_of s + 1) 0 (λ e. omega (arith, e)) ∙ changed-elements _ _ (puts-each step-puts) s (cells t).elements

  pub stepped-length : length (stepped t input s) ≡ length s
  unfolding stepped
  stepped-length = length-set places 1 (steps_of s + 1) ∙ changed-length _ _ (puts-each step-puts) s (cells t).elements

  module _ (full : length s ≡ state_numbers) (few : (cells t).elements ≤ most_places) where
    pub stepped-steps : steps_of (stepped t input s) ≡ steps_of s + 1
    unfolding stepped
    stepped-steps =
        get_or-set_same places 1 (steps_of s + 1) 0 (omega (arith, changed-length _ _ (puts-each step-puts) s (cells t).elements, full))

    module _ (i : ℕ) (l : i < (cells t).elements) where
      stepped-place : place_of (stepped t input s) (cell_place t i) ≡ place_of places (cell_place t i)
      unfolding stepped
      stepped-place = head-kept places 1 (steps_of s + 1) (cell_place t i) (omega arith)

      pub stepped-figures : cell_figures t (stepped t input s) i ≡ step_figures t input s i
      unfolding place_of
      stepped-figures =
          ap (λ (p : ElementState). p.figures) stepped-place ∙ put-place-figures t _ _ _ step-puts s full few i l

      pub stepped-rains : ((cells t).element i).kind ≡ basin → cell_rains t (stepped t input s) i ≡ shifted_rains (input i).rain (cell_rains t s i)
      unfolding place_of
      stepped-rains k = ap (λ (p : ElementState). p.rains) stepped-place ∙ put-place-rains t _ _ _ step-puts s full few i l k
