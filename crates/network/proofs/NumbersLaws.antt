-- The numbers of rule 16: of each element and lead, and of all.
use Rattle.rating.specs.declared.RatedReading.{RatedReading}
use Rattle.std.specs.Prelude.{Option}
use Prim.Native.Nat.{ℕ, zero, suc, ◌+◌, ◌<◌}
use mathlib.Core.List.{List}
use mathlib.Core.Logic.{⊎_elim}
use mathlib.Core.Path.{◌≡◌, refl, sym, subst}
use native.Mathlib.Nat.{eq-or-lt_of_le}
use native.Mathlib.Numerals.{add-one}
use native.Mathlib.Omega.{arith}
use Rattle.units.proofs.UnderLaws.{Under, none-under, parts-under, both_under}
use Rattle.method.specs.declared.Figures.{Figures}
use Rattle.table.specs.Tables.{TableValues}
use Rattle.cells.specs.Cells.{cells}
use Rattle.state.specs.States.{State}
use Rattle.element_step.specs.ElementStep.{element_numbers}
use Rattle.network.specs.Step.{weight_of, above_of, new_figures, network_numbers, no_observation}
use Rattle.network.specs.Forecast.{forecast_own, lead_figures, lead_numbers}

-- of one step or lead
module _ (t : TableValues) (own : ℕ → Figures) (o : ℕ → (Option RatedReading)) (old : ℕ → Figures) where
  abbrev pub cell_numbers : ℕ → List ℕ
  cell_numbers i = element_numbers (weight_of t i) (t.element i) (own i) (o i) (above_of t own o old i) (old i)

  pub element-part : (i n : ℕ) → i < n → Under (network_numbers t own o old n) → Under (cell_numbers i)
  unfolding network_numbers
  element-part i zero l u = absurd (omega arith)
  element-part i (suc n) l u =
      let p = parts-under (network_numbers t own o old n) (cell_numbers n) u in
      ⊎_elim (λ e. subst (λ (k : ℕ). Under (cell_numbers k)) (sym e) p.1) (λ k. element-part i n k p.0)
      (eq-or-lt_of_le (omega arith))

  pub numbers-none : Under (network_numbers t own o old 0)
  unfolding network_numbers
  numbers-none = none-under

  pub numbers_more :
      (i : ℕ) → Under (network_numbers t own o old i) → Under (cell_numbers i) → Under (network_numbers t own o old (i + 1))
  unfolding network_numbers
  numbers_more i u v = rw add-one (both_under (network_numbers t own o old i) (cell_numbers i) u v)

-- of the leads of a forecast
module _ (t : TableValues) (s : State) where
  -- what each element has of its own at lead l + 1, and the figures there
  abbrev pub lead_own : ℕ → ℕ → Figures
  lead_own l = forecast_own t s (suc l)

  pub figures-again : (l i : ℕ) → lead_figures t s (suc l) i ≡ new_figures (cells t) (lead_own l) no_observation (lead_figures t s l) i
  unfolding lead_figures
  figures-again l i = refl

  abbrev pub numbers_at : ℕ → ℕ → List ℕ
  numbers_at l = network_numbers (cells t) (lead_own l) no_observation (lead_figures t s l)

  pub lead-part : (l n : ℕ) → l < n → Under (lead_numbers t s n) → Under (numbers_at l (cells t).elements)
  unfolding lead_numbers
  lead-part l zero m u = absurd (omega arith)
  lead-part l (suc n) m u =
      let p = parts-under (lead_numbers t s n) (numbers_at n (cells t).elements) u in
      ⊎_elim (λ e. subst (λ (k : ℕ). Under (numbers_at k (cells t).elements)) (sym e) p.1) (λ k. lead-part l n k p.0)
      (eq-or-lt_of_le (omega arith))

  pub lead-whole : (n : ℕ) → ((l : ℕ) → l < n → Under (numbers_at l (cells t).elements)) → Under (lead_numbers t s n)
  unfolding lead_numbers
  lead-whole zero h = none-under
  lead-whole (suc n) h = both_under _ _ (lead-whole n (λ l m. h l (omega arith))) (h n (omega arith))
