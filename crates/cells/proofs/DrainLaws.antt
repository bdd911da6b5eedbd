-- Where the water of a river's cells goes, and where its gauges stand.
use Prim.Native.Nat.{ℕ, zero, suc, ◌+◌, ◌-◌, ◌≤◌, ◌<◌}
use mathlib.Core.Bool.{Bool, true, false, cond}
use mathlib.Core.Logic.{◌≢◌}
use mathlib.Core.Path.{◌≡◌, refl, sym, ap, subst, ◌∙◌}
use borrow.Author.Tests.{le-ltb, leb-true, leb-false}
use native.Mathlib.Omega.{arith}
use lib.Dec.{leb}
use Rattle.elements.specs.declared.Element.{Element}
use Rattle.elements.specs.Kinds.{dam, tanks, extra_tanks, same_kind}
use Rattle.table.specs.Tables.{TableValues}
use Rattle.table.specs.KindCounts.{extra_before, extra_count}
use Rattle.table.specs.InUse.{below}
use Rattle.table.proofs.CountLaws.{extra-rise}
use Rattle.cells.specs.Cells.{first_cell, last_cell, cell_at, cell_place, last_of, tank_of, draining_into, inlet_of, gauge_of, cells}
use Rattle.cells.proofs.CellLaws.{
  CellIn,
  Cell,
  last,
  inner,
  one-kind,
  cell-of,
  cell-used,
  last-cell,
  inner-cell,
  last-is,
  last-most,
  last-place,
  last-kind,
  element-of,
  first-in,
}

module _ (t : TableValues) where
  -- the water of cell b comes to cell c: from a tank "fed by the tank above" to the next, or from the last cell of an element to the first of
  -- the element that it drains into
  pub data Drained (b c : ℕ) : Type 0 where
    within : (i : ℕ) → CellIn t i b → CellIn t i c → c ≡ b + 1 → Drained b c
    across : (i k : ℕ) → i < t.elements → b ≡ last_cell t i → (t.element i).down ≡ k + 1 → c ≡ first_cell t k → Drained b c

  last-down : (e : Element) → (last_of t e).down ≡ inlet_of t e.down
  unfolding last_of tank_of draining_into
  last-down e = go (same_kind e.kind tanks)
    where
      go : (x : Bool) → (cond x (tank_of e (inlet_of t e.down)) (draining_into e (inlet_of t e.down))).down ≡ inlet_of t e.down
      go true = refl
      go false = refl

  down-across : (i c d : ℕ) → i < t.elements → (t.element i).down ≡ d → inlet_of t d ≡ c + 1 → Drained (last_cell t i) c
  unfolding inlet_of
  down-across i c zero l e h = absurd (omega (arith, h))
  down-across i c (suc k) l e h = across i k l refl (e ∙ omega arith) (omega (arith, h))

  down-of : (b c : ℕ) → Cell t b → (cell_at t b).down ≡ c + 1 → Drained b c
  unfolding tank_of
  down-of b c (last i l e) h =
      rw e (down-across i c (t.element i).down l refl (sym (ap (λ (x : Element). x.down) (ap (cell_at t) e ∙ last-cell t i l) ∙ last-down (t.element i)) ∙ h))
  down-of b c (inner i at n) h =
      let next : c ≡ b + 1 = omega (arith, sym (ap (λ (x : Element). x.down) (inner-cell t at n)) ∙ h) in
      within i at (record { used = at.used; from = omega (arith, next, at.from); to = omega (arith, next, n) }) next

  -- a cell not in use drains nowhere
  not-in-use : (b c : ℕ) → t.elements + extra_count t ≤ b → ((cells t).element b).down ≢ c + 1
  unfolding cells below
  not-in-use b c l h = absurd (omega (arith, rw (le-ltb b (t.elements + extra_count t) l) at h))

  pub drained : (b c : ℕ) → ((cells t).element b).down ≡ c + 1 → Drained b c
  drained b c h = go (leb (suc b) (t.elements + extra_count t)) refl
    where
      go : (x : Bool) → leb (suc b) (t.elements + extra_count t) ≡ x → Drained b c
      go true e =
          let l = leb-true (suc b) (t.elements + extra_count t) e in
          down-of b c (cell-of t b l) (sym (ap (λ (x : Element). x.down) (cell-used t b l)) ∙ h)
      go false e = absurd (not-in-use b c (omega (arith, leb-false (suc b) (t.elements + extra_count t) e)) h)

  -- a cell is of one element
  pub one-element : {i k c : ℕ} → CellIn t i c → CellIn t k c → i ≡ k
  one-element h g = sym (element-of t h) ∙ element-of t g

  -- the first cell of an element is of no other
  pub first_of : {i k c : ℕ} → CellIn t i c → c ≡ first_cell t k → i ≡ k
  unfolding last_cell extra_before
  first_of {i} {k} {c} h e = go (leb (suc k) t.elements) refl
    where
      go : (x : Bool) → leb (suc k) t.elements ≡ x → i ≡ k
      go true q = one-element h (subst (CellIn t k) (sym e) (first-in t (leb-true _ _ q)))
      go false q =
          let beyond = leb-false (suc k) t.elements q in
          absurd (omega (arith, e, h.to, h.used, beyond, extra-rise t (suc i) k (omega (arith, h.used, beyond))))

  -- a dam is one cell, a dam
  pub dam-cell : (k : ℕ) → k < t.elements → (t.element k).kind ≡ dam → ((cells t).element (first_cell t k)).kind ≡ dam
  unfolding extra_tanks same_kind
  dam-cell k l d =
      let one : last_cell t k ≡ first_cell t k = last-is t k ∙ omega (arith, no_extra) in
      ap (λ (c : ℕ). ((cells t).element c).kind) (sym one)
      ∙ (ap (λ (e : Element). e.kind) (cell-used t (last_cell t k) (last-most t k l))
      ∙ (last-kind t k l ∙ (one-kind (t.element k) (λ e. cc) ∙ d)))
    where
      no_extra : cond (same_kind (t.element k).kind tanks) ((t.element k).runoff - 1) 0 ≡ 0
      no_extra = rw d

  -- "a gauge corrects the last, whose figures are the element's": the cell of a gauge stands at its element's place
  pub gauge-place :
      (g : ℕ) → 1 ≤ (t.gauge g).element → (t.gauge g).element ≤ t.elements → cell_place t (((cells t).gauge g).element - 1) ≡ (t.gauge g).element - 1
  unfolding cells gauge_of
  gauge-place g least most =
      ap (cell_place t) (omega arith) ∙ last-place t ((t.gauge g).element - 1) (omega (arith, least, most))
