-- Readings come in at elements; the limit is worked out by cells. A cell is read where its element is.
use Rattle.std.specs.Prelude.{None}
use Prim.Native.Nat.{ℕ, zero, suc, ◌+◌, ◌≤◌, ◌<◌}
use mathlib.Core.Bool.{Bool, true, false, ◌||◌}
use mathlib.Core.List.{List}
use mathlib.Core.Logic.{◌⊎◌}
use mathlib.Core.Path.{◌≡◌, refl, sym, ap, subst, ◌∙◌}
use borrow.Author.Tests.{eqb-true, ne_eqb}
use native.Mathlib.Numerals.{add-one}
use native.Mathlib.Omega.{arith}
use lib.Dec.{eqb}
use Rattle.table.specs.Tables.{TableValues}
use Rattle.table.specs.Bounds.{AcceptedBounds}
use Rattle.record.specs.Records.{Input, input_at}
use Rattle.record.proofs.CellInputs.{last-input, inner-input}
use Rattle.cells.specs.Cells.{last_cell, element_of, cells}
use Rattle.cells.proofs.CellLaws.{CellIn, Cell, last, inner, cell-of, found, element-of, last-in, first-in}
use Rattle.cells.proofs.DrainLaws.{Drained, within, across, drained, one-element}
use Rattle.network.specs.Step.{network_down, observed_in}
use Rattle.exact_run.specs.Limit.{next, leads_to, NoReading}
use Rattle.exact_run.proofs.AboveLaws.{no-reading-here, no-reading-above}
use Rattle.claim.specs.CabinetRun.{has_reading_after}
use Rattle.claim.proofs.ReadingLaws.{not-observed}

-- whether a reading has come in at the element that a cell is of, by its number
unfoldable pub at_its_element : TableValues → (ℕ → Bool) → ℕ → Bool
at_its_element t has_reading zero = has_reading 0
at_its_element t has_reading (suc c) = has_reading (element_of t c + 1)

-- a reading that has come in stays
pub cell-readings-stay :
    (t : TableValues) (has_reading has_reading' : ℕ → Bool)
    → ((k : ℕ) → has_reading k ≡ true → has_reading' k ≡ true)
    → (k : ℕ)
    → at_its_element t has_reading k ≡ true
    → at_its_element t has_reading' k ≡ true
unfolding at_its_element
cell-readings-stay t has_reading has_reading' stays zero h = stays 0 h
cell-readings-stay t has_reading has_reading' stays (suc c) h = stays (element_of t c + 1) h

module _ (t : TableValues) (b : AcceptedBounds t) where
  -- where none has come in, a record brings no observation
  module _ (bytes : List ℕ) (has_reading : ℕ → Bool) where
    unread : (c : ℕ) → Cell t c → has_reading_after t bytes has_reading (element_of t c + 1) ≡ false → observed_in (input_at (cells t) bytes) c ≡ None
    unfolding observed_in
    unread c (last i l e) h =
        let of : element_of t c ≡ i = ap (element_of t) e ∙ element-of t (last-in t l) in
        ap (λ (x : Input). x.observation) (ap (input_at (cells t) bytes) e ∙ last-input t b.gauge bytes i l)
        ∙ not-observed t bytes has_reading i (subst (λ (k : ℕ). has_reading_after t bytes has_reading (k + 1) ≡ false) of h)
    unread c (inner i at n) h = ap (λ (x : Input). x.observation) (inner-input t b.gauge bytes at n)

    pub cell-not-observed :
        (c : ℕ)
        → c < (cells t).elements
        → at_its_element t (has_reading_after t bytes has_reading) (c + 1) ≡ false
        → observed_in (input_at (cells t) bytes) c ≡ None
    unfolding at_its_element cells
    cell-not-observed c l h =
        unread c (cell-of t c l) (subst (λ (k : ℕ). at_its_element t (has_reading_after t bytes has_reading) k ≡ false) (add-one c) h)

  -- where none has come in at or above an element, none has at or above its last cell
  module _ (has_reading : ℕ → Bool) where
    abbrev Unread : ℕ → Type 0
    Unread i = NoReading t.elements (network_down t) has_reading (i + 1)

    down-most : (j : ℕ) → j < t.elements → network_down t j ≤ t.elements
    unfolding network_down
    down-most j l = (b.element j l).down

    down-later : (j : ℕ) → j < t.elements → (network_down t j ≡ 0) ⊎ (j + 1 < network_down t j)
    unfolding network_down
    down-later j l = (b.element j l).later

    drains-next : (i k : ℕ) → (t.element i).down ≡ k + 1 → next (network_down t) (i + 1) ≡ k + 1
    unfolding next network_down
    drains-next i k e = rw (add-one i) e

    -- the outlet leads nowhere
    from-outlet : (k turns : ℕ) → leads_to (network_down (cells t)) (k + 1) turns 0 ≡ true → ⊥
    unfolding leads_to next
    from-outlet k zero h = omega (arith, eqb-true 0 (k + 1) h)
    from-outlet k (suc turns) h = from-outlet k turns (rw (ne_eqb 0 (k + 1) (λ e. omega (arith, e))) at h)

    -- from the cell below
    above-unread :
        {c d m : ℕ} → CellIn t m c → Drained t c d → ((k : ℕ) → CellIn t k d → Unread k) → Unread m
    above-unread at (within k from to _) rest = subst Unread (one-element t from at) (rest k to)
    above-unread at (across i k l is drains first) rest =
        let most : k < t.elements = omega (arith, drains, (b.element i l).down) in
        let below = rest k (subst (CellIn t k) (sym first) (first-in t most)) in
        subst Unread (one-element t (subst (CellIn t i) (sym is) (last-in t l)) at)
        (no-reading-above t.elements (network_down t) down-most down-later has_reading (i + 1) (k + 1) (omega arith) (omega (arith, most)) (drains-next i k drains) below)

    module _ (i : ℕ) (used : i < t.elements) (none : Unread i) where
      here-unread : (c m : ℕ) → CellIn t m c → eqb (suc c) (last_cell t i + 1) ≡ true → Unread m
      here-unread c m at e =
          let is : last_cell t i ≡ c = omega (arith, eqb-true (suc c) (last_cell t i + 1) e) in
          subst Unread (one-element t (subst (CellIn t i) is (last-in t used)) at) none

      up-unread : (turns c m : ℕ) → CellIn t m c → leads_to (network_down (cells t)) (last_cell t i + 1) turns (suc c) ≡ true → Unread m
      unfolding leads_to next network_down
      up-unread zero c m at h = here-unread c m at h
      up-unread (suc turns) c m at h =
          go (eqb (suc c) (last_cell t i + 1)) refl h ((cells t).element c).down refl (λ d k to g. up-unread turns d k to g)
        where
          go :
              (x : Bool)
              → eqb (suc c) (last_cell t i + 1) ≡ x
              → (x || leads_to (network_down (cells t)) (last_cell t i + 1) turns ((cells t).element c).down) ≡ true
              → (d : ℕ)
              → ((cells t).element c).down ≡ d
              → ((d k : ℕ) → CellIn t k d → leads_to (network_down (cells t)) (last_cell t i + 1) turns (suc d) ≡ true → Unread k)
              → Unread m
          go true e g d q rest = here-unread c m at e
          go false e g zero q rest = absurd (from-outlet (last_cell t i) turns (rw q at g))
          go false e g (suc d) q rest = above-unread at (drained t c d (q ∙ sym (add-one d))) (λ k to. rest d k to (rw q at g))

      pub cells-unread : NoReading (cells t).elements (network_down (cells t)) (at_its_element t has_reading) (last_cell t i + 1)
      unfolding at_its_element cells
      cells-unread = record { none = at }
        where
          at :
              (k : ℕ)
              → 1 ≤ k
              → k ≤ (cells t).elements
              → leads_to (network_down (cells t)) (last_cell t i + 1) (cells t).elements k ≡ true
              → at_its_element t has_reading k ≡ false
          at zero l m h = absurd (omega arith)
          at (suc c) l m h =
              let f = found t c m in
              subst (λ (e : ℕ). has_reading (e + 1) ≡ false) (sym (element-of t f.at))
              (no-reading-here t.elements (network_down t) down-most down-later has_reading (f.element + 1) (omega arith) (omega (arith, f.at.used))
              (up-unread (cells t).elements c f.element f.at h))
