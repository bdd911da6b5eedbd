-- What rule 16 gives of a network that it lets through.
use Rattle.rating.specs.declared.RatedReading.{RatedReading}
use Rattle.std.specs.Prelude.{Option}
use Prim.Native.Nat.{ℕ, ◌≤◌, ◌<◌}
use mathlib.Core.Path.{◌≡◌, subst}
use Rattle.units.specs.Units.{C}
use Rattle.units.proofs.UnderLaws.{Under, first_under}
use Rattle.method.specs.declared.Figures.{Figures}
use Rattle.method.specs.Inflow.{reach_inflow, inflow_numbers}
use Rattle.elements.specs.Kinds.{basin, reach}
use Rattle.elements.proofs.KindLaws.{by-basin, by-reach}
use Rattle.table.specs.Tables.{TableValues}
use Rattle.element_step.specs.ElementStep.{stored_numbers, element_numbers}
use Rattle.network.specs.Step.{above_of, network_numbers}
use Rattle.network.proofs.NumbersLaws.{element-part}

-- the inflow of a basin, and of a reach
module _
    (t : TableValues) (own : ℕ → Figures) (o : ℕ → (Option RatedReading)) (old : ℕ → Figures)
    (u : Under (network_numbers t own o old t.elements)) (i : ℕ) (l : i < t.elements) where
  pub own-under : (t.element i).kind ≡ basin → (own i).discharge.0 ≤ C
  unfolding element_numbers stored_numbers inflow_numbers
  own-under k = (first_under _ _ (subst Under (by-basin (t.element i).kind _ _ _ _ k) (element-part t own o old i t.elements l u))).0

  pub above-under : (t.element i).kind ≡ reach → (reach_inflow (above_of t own o old i)).discharge.0 ≤ C
  unfolding element_numbers stored_numbers inflow_numbers
  above-under k = (first_under _ _ (subst Under (by-reach (t.element i).kind _ _ _ _ k) (element-part t own o old i t.elements l u))).0
