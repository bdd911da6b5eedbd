-- The loops that write the state after a step: one place more, and the end; both parts together are the state after the step.
use Prim.Native.Nat.{ℕ, ◌+◌, ◌<◌}
use mathlib.Core.List.{List}
use mathlib.Core.Path.{◌≡◌, refl, sym, ap, ◌∙◌}
use native.Mathlib.Omega.{arith}
use lib.ListN.{length, set}
use Rattle.sizes.specs.Sizes.{state_numbers}
use Rattle.method.specs.declared.Figures.{Figures}
use Rattle.elements.specs.declared.Element.{Element}
use Rattle.elements.specs.Elements.{element_at}
use Rattle.elements.specs.Kinds.{by_kind}
use Rattle.elements.proofs.KindLaws.{kind-both, by-basin}
use Rattle.table.specs.Tables.{TableValues}
use Rattle.table.specs.KindCounts.{basins_before, extra_count}
use Rattle.table.specs.Bounds.{AcceptedBounds}
use Rattle.table.specs.InUse.{table_in}
use Rattle.table.proofs.InUseLaws.{element-read}
use Rattle.cells.specs.Cells.{last_cell, cells, cell_place}
use Rattle.cells.proofs.CellLaws.{last-place}
use Rattle.record.specs.Records.{Input, rain_at, rain_of, input_rain, input_at}
use Rattle.record.proofs.CellInputs.{last-input}
use Rattle.state.specs.declared.Rains.{Rains}
use Rattle.state.specs.States.{State, ElementState, steps_of, rains_of, place_of, put_figures, put_rains, put_place, figures_put, changed}
use Rattle.state.proofs.StateLaws.{ChangesEach, place-changes, figures-change, changed-later, changed-steps, changed-again}
use Rattle.state.proofs.PartsLaws.{in_parts}
use Rattle.element_step.specs.Rains.{shifted_rains}
use Rattle.network.specs.Step.{step_put, stepped}
use Rattle.network.proofs.StepLaws.{step-puts}
use Rattle.answer_space.specs.Places.{figures_at}
use Rattle.next_state.specs.Written.{FiguresHeld, TanksWritten, ElementsWritten, element_put}
use Rattle.std.specs.Prelude.{Option}
use Rattle.elements.specs.declared.Kind.{Kind}

-- ---- the loop over the elements

module _ (table bytes : List ℕ) (space : List Figures) (s : State) where
  abbrev t : TableValues
  t = table_in table

  abbrev pub change : ℕ → State → State
  change = element_put t bytes space s

  element-changes : ChangesEach (λ i. i) change
  unfolding element_put
  element-changes = record { at = λ i now. place-changes _ _ _ i now }

  -- the place of element i, whose change has not come yet
  rains-before : (i : ℕ) → rains_of (changed change i s) i ≡ rains_of s i
  unfolding place_of
  rains-before i =
      ap (λ (p : ElementState). p.rains) (changed-later _ change element-changes s i i (λ j l e. omega (arith, e, l)))

  pub written-again :
      (i : ℕ) {kind : Option Kind} {b : ℕ} {x : Figures} {now next : State}
      → i < t.elements
      → now ≡ changed change i s
      → kind ≡ (element_at table i).kind
      → b ≡ basins_before t i
      → x ≡ figures_at space (i + 1)
      → next ≡ put_place kind x (shifted_rains (rain_at bytes b) (rains_of now i)) i now
      → next ≡ changed change (i + 1) s
  unfolding element_put put_place input_at input_rain rain_of
  written-again i {kind} {b} {x} {now} l h k counted xs n =
      n ∙ (rw (k ∙ ap (λ (e : Element). e.kind) (sym (element-read table i l)), xs, counted) same ∙ changed-again change i s now h)
    where
      same :
          by_kind (t.element i).kind
          (put_rains (put_figures now i (figures_at space (i + 1))) i (shifted_rains (rain_at bytes (basins_before t i)) (rains_of now i)))
          (put_figures now i (figures_at space (i + 1))) (put_figures now i (figures_at space (i + 1)))
          (put_figures now i (figures_at space (i + 1)))
          ≡ change i now
      same =
          kind-both (λ (p q : State). p ≡ q) (t.element i).kind
          (λ b. rw (by-basin (t.element i).kind (rain_at bytes (basins_before t i)) 0 0 0 b, h, rains-before i)) (λ _. refl) (λ _. refl)
          (λ _ _ _. refl)

  -- the step count has not changed yet
  pub written-steps : (i : ℕ) {now : State} → now ≡ changed change i s → steps_of now ≡ steps_of s
  written-steps i h = ap steps_of h ∙ changed-steps _ change element-changes s i

  pub written-done :
      {i : ℕ} (now : State) (steps : ℕ)
      → i ≡ t.elements
      → now ≡ changed change i s
      → steps ≡ steps_of s
      → ElementsWritten table bytes space s (set now 1 (steps + 1))
  written-done now steps e h k = rw (h, e, k)

-- ---- both parts

-- a river without tanks
pub no-tanks : (n extra : ℕ) (space : List Figures) (s : State) → extra ≡ 0 → TanksWritten n extra space s s
unfolding changed
no-tanks n extra space s e = rw e

tanks-change : (f : ℕ → Figures) (n : ℕ) → ChangesEach (λ x. n + x) (figures_put f n)
tanks-change f n = record { at = λ x s. figures-change s (n + x) (f x) }

-- the tanks' part keeps the step count
pub tanks-steps : (n extra : ℕ) (space : List Figures) (s middle : State) → TanksWritten n extra space s middle → steps_of middle ≡ steps_of s
tanks-steps n extra space s middle e =
    ap steps_of e ∙ changed-steps _ _ (tanks-change (λ x. figures_at space (n + x + 1)) n) s extra

-- the state s before both, `middle` between them
module _
    (table bytes : List ℕ) (space : List Figures) (s middle after : State) (bounds : AcceptedBounds (table_in table)) (full : length s ≡ state_numbers)
    (held : FiguresHeld space (table_in table) bytes s)
    {n extra : ℕ} (elements : n ≡ (table_in table).elements) (tanks : extra ≡ extra_count (table_in table))
    (first : TanksWritten n extra space s middle) (second : ElementsWritten table bytes space middle after) where
  abbrev input : ℕ → Input
  input = input_at (cells (table_in table)) bytes

  abbrev figures : ℕ → Figures
  figures p = figures_at space (p + 1)

  middle-is : middle ≡ changed (figures_put (λ x. figures ((table_in table).elements + x)) (table_in table).elements) (extra_count (table_in table)) s
  middle-is =
      first
      ∙ (ap (λ (m : ℕ). changed (figures_put (λ x. figures (m + x)) m) extra s) elements
      ∙ ap (λ (x : ℕ). changed (figures_put (λ x. figures ((table_in table).elements + x)) (table_in table).elements) x s) tanks)

  -- what only the elements' part changes
  rains-kept : (i : ℕ) → i < (table_in table).elements → rains_of middle i ≡ rains_of s i
  unfolding place_of
  rains-kept i l =
      ap (λ (x : State). rains_of x i) first
      ∙ ap (λ (p : ElementState). p.rains)
      (changed-later _ _ (tanks-change (λ x. figures (n + x)) n) s extra i (λ j _ e. omega (arith, e, l, elements)))

  abbrev new_rains : ℕ → Rains
  new_rains i = shifted_rains (input_at (table_in table) bytes i).rain (rains_of middle i)

  rains-same :
      (i : ℕ)
      → i < (table_in table).elements
      → shifted_rains (input (last_cell (table_in table) i)).rain (rains_of s (cell_place (table_in table) (last_cell (table_in table) i))) ≡ new_rains i
  rains-same i l = rw (last-input (table_in table) bounds.gauge bytes i l, last-place (table_in table) i l, rains-kept i l)

  pub written-in-parts : after ≡ stepped (table_in table) input s
  unfolding stepped element_put cells
  written-in-parts =
      second
      ∙ rw (tanks-steps n extra space s middle first)
      (ap (λ (x : State). set x 1 (steps_of s + 1))
      (ap (changed (element_put (table_in table) bytes space middle) (table_in table).elements) middle-is
      ∙ sym (in_parts (table_in table) figures new_rains (step_put (table_in table) input s) _ _ (step-puts (table_in table) input s) held.at rains-same s full bounds.places_most)))
