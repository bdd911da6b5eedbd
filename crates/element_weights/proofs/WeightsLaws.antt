-- Laws of the weights of an accepted table's elements.
use Prim.Native.Nat.{ℕ, ◌≤◌, ◌<◌}
use mathlib.Core.Bool.{Bool, true, false, cond}
use mathlib.Core.List.{List}
use mathlib.Core.Logic.{◌≢◌}
use mathlib.Core.Path.{◌≡◌, refl, ap, ◌∙◌}
use native.Mathlib.Omega.{arith}
use lib.ListN.{get_or}
use Rattle.units.specs.Units.{S}
use Rattle.weighting.specs.Weight.{weight}
use Rattle.elements.specs.declared.Element.{Element}
use Rattle.elements.specs.Elements.{element_at}
use Rattle.elements.specs.Kinds.{dam, tanks, by_kind, same_kind}
use Rattle.elements.proofs.KindLaws.{kind-cases, no_other, eq-same, same-true, same-false}
use Rattle.table.specs.Tables.{TableValues}
use Rattle.table.specs.InUse.{table_in}
use Rattle.table.proofs.InUseLaws.{element-read}
use Rattle.table.proofs.HeldLaws.{element-bounds}
use Rattle.cells.specs.Cells.{last_cell, last_of, tank_of, draining_into, inlet_of, cells}
use Rattle.cells.proofs.CellLaws.{CellIn, last-most, last-cell, inner-cell, inner-tanks, cell-used}
use Rattle.network.specs.Step.{weight_of}
use Rattle.network.proofs.StepLaws.{weight-of-most}
use Rattle.element_weights.specs.Weights.{element_weight, ElementKnown, WeightsHeld}

-- the last cell of an element
cell-is : (t : TableValues) (i : ℕ) → i < t.elements → (cells t).element (last_cell t i) ≡ last_of t (t.element i)
cell-is t i l = cell-used t (last_cell t i) (last-most t i l) ∙ last-cell t i l

-- an element in use, as it is read from the bytes
module _ (bytes : List ℕ) (i : ℕ) {step lag : ℕ} (known : ElementKnown bytes step i) (read : lag ≡ (element_at bytes i).lag) where
  abbrev e : Element
  e = element_at bytes i

  -- a lag that is not 0 is no dam's
  stores : lag ≢ 0 → e.kind ≢ dam
  stores n d = n (read ∙ (element-bounds bytes known.table known.used).no_lag d)

  pub lag-bounds : lag ≢ 0 → (1 ≤ step) × ((step ≤ lag) × (lag ≤ 60000))
  lag-bounds n =
      let b = (element-bounds bytes known.table known.used).lag (stores n) in
      (rw known.step known.table.bounds.step_least, (rw (known.step, read) b.0, rw read b.1))

  pub weight-worked : {w : ℕ} → lag ≢ 0 → w ≡ weight step lag → w ≡ element_weight (table_in bytes) i
  unfolding weight_of cells last_of tank_of draining_into by_kind
  weight-worked {w} n h =
      rw (cell-is (table_in bytes) i known.used, element-read bytes i known.used)
      (go (same_kind e.kind tanks) refl)
    where
      is : w ≡ weight (table_in bytes).step e.lag
      is = h ∙ (ap (weight step) read ∙ ap (λ (T : ℕ). weight T e.lag) known.step)

      go :
          (x : Bool)
          → same_kind e.kind tanks ≡ x
          → let c = cond x (tank_of e (inlet_of (table_in bytes) e.down)) (draining_into e (inlet_of (table_in bytes) e.down)) in
          w ≡ by_kind c.kind (weight (table_in bytes).step c.lag) (weight (table_in bytes).step c.lag) 0 0
      go true k = is
      go false k =
          kind-cases (λ (x : ℕ). w ≡ x) e.kind (λ _. is) (λ _. is) (λ d. absurd (stores n d))
          (λ p q r. absurd (no_other ((element-bounds bytes known.table known.used).single (same-false _ _ k)) p q r))

  -- a lag of 0 is a dam's
  pub no-weight : lag ≡ 0 → 0 ≡ element_weight (table_in bytes) i
  unfolding weight_of cells last_of tank_of draining_into by_kind
  no-weight z =
      rw (cell-is (table_in bytes) i known.used, element-read bytes i known.used)
      (go (same_kind e.kind tanks) refl)
    where
      small : e.kind ≢ dam → ⊥
      small n = omega (arith, z, read, known.table.bounds.step_least, ((element-bounds bytes known.table known.used).lag n).0)

      go :
          (x : Bool)
          → same_kind e.kind tanks ≡ x
          → let c = cond x (tank_of e (inlet_of (table_in bytes) e.down)) (draining_into e (inlet_of (table_in bytes) e.down)) in
          0 ≡ by_kind c.kind (weight (table_in bytes).step c.lag) (weight (table_in bytes).step c.lag) 0 0
      go true k = absurd (small (λ d. cc (same-true e.kind tanks k)))
      go false k =
          kind-cases (λ (x : ℕ). 0 ≡ x) e.kind (λ b. absurd (small (λ d. cc)))
          (λ r. absurd (small (λ d. cc))) (λ _. refl) (λ _ _ _. refl)

-- a weight that is read out of them
pub weight-held :
    {t : TableValues} {weight : List ℕ}
    → WeightsHeld t weight
    → (i : ℕ)
    → i < t.elements
    → (get_or weight i 0 ≡ element_weight t i) × (get_or weight i 0 ≤ S)
weight-held {t} h i used = (h.at i used, rw (h.at i used) (weight-of-most (cells t) (last_cell t i)))

-- of tanks each has it
pub tank-weight : (t : TableValues) (i c : ℕ) → CellIn t i c → c < last_cell t i → weight_of (cells t) c ≡ element_weight t i
unfolding weight_of last_of tank_of by_kind
tank-weight t i c h less =
    rw (cell-used t c (omega (arith, less, last-most t i h.used)) ∙ inner-cell t h less, cell-is t i h.used, eq-same (t.element i).kind tanks (inner-tanks t h less))
