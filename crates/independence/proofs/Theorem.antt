-- Document 02, M-102: "two accepted trials from one state that differ in one gauge's reading, or in its being a gap, agree at every element
-- that this gauge's water does not reach."
use Prim.Native.Nat.{ℕ, suc, ◌+◌, ◌-◌, ◌<◌}
use mathlib.Core.Bool.{Bool, true, false}
use mathlib.Core.List.{List}
use mathlib.Core.Logic.{◌≢◌}
use mathlib.Core.Path.{◌≡◌, refl, sym, ap, subst, ◌∙◌}
use borrow.Author.Tests.{leb-true, leb-false}
use native.Mathlib.Omega.{arith}
use lib.Dec.{leb}
use lib.ListN.{length}
use Rattle.sizes.specs.Sizes.{state_numbers}
use Rattle.method.specs.declared.Figures.{Figures}
use Rattle.table.specs.Tables.{TableValues}
use Rattle.table.specs.Bounds.{AcceptedBounds}
use Rattle.table.specs.InUse.{table_in}
use Rattle.record.specs.Records.{input_at}
use Rattle.record.proofs.SameLaws.{same-rain, same-release, same-observation}
use Rattle.cells.specs.Cells.{last_cell, gauge_of, cells}
use Rattle.cells.proofs.CellLaws.{last-in-use}
use Rattle.record.proofs.CellInputs.{basins-same, dams-same, gauges-same, reading-same}
use Rattle.state.specs.States.{State, cell_figures}
use Rattle.network.specs.Step.{step_own, observed_in, step_figures}
use Rattle.independence.specs.Independence.{AcceptedTrial, DifferAt, Reached, here, Agree, AgreeApart}
use Rattle.independence.proofs.WalkLaws.{same-figures}
use Rattle.independence.proofs.ShownLaws.{figures_read, trial-bounds, trial-shows}
use Rattle.independence.proofs.ReachedLaws.{last-reached, none-reached}

-- the step's figures of two records whose readings may differ at the gauge of cell number `from` alone
step_same :
    (t : TableValues) (s : State) (g from : ℕ) (one other : List ℕ)
    → DifferAt t g one other
    → ((k : ℕ) → k < t.gauges → ((cells t).gauge k).element ≢ from → k ≢ g)
    → (i : ℕ)
    → i < (cells t).elements
    → (Reached (cells t) from (i + 1) → ⊥)
    → step_figures t (input_at (cells t) one) s i ≡ step_figures t (input_at (cells t) other) s i
unfolding step_figures step_own observed_in input_at
step_same t s g from one other d elsewhere =
    let r = cells t in
    same-figures r from (step_own r (input_at r one)) (step_own r (input_at r other)) (observed_in (input_at r one)) (observed_in (input_at r other))
    (cell_figures t s)
    (λ i l. rw (same-rain r one other i (rw (basins-same t) d.rains) l, same-release r one other i (rw (basins-same t, dams-same t) d.releases) l))
    (λ i l apart.
    same-observation r one other i
    (λ k m e.
    let few : k < t.gauges = rw (gauges-same t) at m in
    reading-same t one k
    ∙ (d.readings k few (elsewhere k few (λ h. apart (subst (Reached r from) (sym h ∙ e) here))) ∙ sym (reading-same t other k)))
    r.gauges (omega arith))

-- at the elements that gauge g's water does not reach
last-same :
    (t : TableValues) (s : State) (g : ℕ) (one other : List ℕ)
    → AcceptedBounds t
    → DifferAt t g one other
    → (i : ℕ)
    → i < t.elements
    → (Reached t (t.gauge g).element (i + 1) → ⊥)
    → step_figures t (input_at (cells t) one) s (last_cell t i) ≡ step_figures t (input_at (cells t) other) s (last_cell t i)
unfolding cells gauge_of
last-same t s g one other b d i l apart = go (leb (suc g) t.gauges) refl
  where
    go :
        (x : Bool)
        → leb (suc g) t.gauges ≡ x
        → step_figures t (input_at (cells t) one) s (last_cell t i) ≡ step_figures t (input_at (cells t) other) s (last_cell t i)
    go true e =
        let known = b.gauge g (leb-true _ _ e) in
        let j : ℕ = (t.gauge g).element - 1 in
        let is : j + 1 ≡ (t.gauge g).element = omega (arith, known.element_least) in
        step_same t s g (last_cell t j + 1) one other d (λ k _ n h. n (ap (λ (m : ℕ). last_cell t ((t.gauge m).element - 1) + 1) h)) (last_cell t i)
        (last-in-use t i l)
        (λ r. apart (subst (λ (m : ℕ). Reached t m (i + 1)) is (last-reached t j (omega (arith, known.element_least, known.element_most)) i l r)))
    go false e =
        step_same t s g 0 one other d (λ k m _ h. omega (arith, h, m, leb-false (suc g) t.gauges e)) (last_cell t i) (last-in-use t i l)
        (λ r. omega (arith, none-reached r))

-- equal figures are equal numbers
agreeing : {one other : List ℕ} (i : ℕ) → figures_read one i ≡ figures_read other i → Agree one other i
unfolding figures_read
agreeing i e =
    record {
      discharge = ap (λ (f : Figures). f.discharge.0) e;
      discharge_margin = ap (λ (f : Figures). f.discharge_margin.0) e;
      variance = ap (λ (f : Figures). f.variance.0) e;
      variance_margin = ap (λ (f : Figures). f.variance_margin.0) e;
    }

-- of any table, gauge and state (7,002 numbers), and any two records and lent spaces
pub independence :
    (table : List ℕ) (g : ℕ) (s : State)
    → length s ≡ state_numbers
    → (one other : List ℕ) {lent lent' written written' : List ℕ}
    → AcceptedTrial table one s lent written
    → AcceptedTrial table other s lent' written'
    → DifferAt (table_in table) g one other
    → AgreeApart (table_in table) g written written'
unfolding AgreeApart
independence table g s whole one other p q d i l r =
    agreeing i
    (trial-shows table one s whole p i l
    ∙ (last-same (table_in table) s g one other (trial-bounds table one s whole p) d i l r ∙ sym (trial-shows table other s whole q i l)))
