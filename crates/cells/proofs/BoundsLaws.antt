-- The cells of an accepted table are a table of basins, reaches and dams that keeps the same bounds.
use Prim.Native.Nat.{ℕ, ◌+◌, ◌-◌, ◌≤◌, ◌<◌}
use mathlib.Core.Bool.{Bool, true, false, cond}
use mathlib.Core.Logic.{◌⊎◌, inl, inr, ◌≢◌}
use mathlib.Core.Path.{◌≡◌, refl, sym, subst}
use native.Mathlib.Omega.{arith}
use Rattle.elements.specs.declared.Element.{Element}
use Rattle.elements.specs.Kinds.{tanks, same_kind}
use Rattle.elements.specs.Bounds.{AcceptedElement, ElementBounds}
use Rattle.table.specs.Tables.{TableValues}
use Rattle.table.specs.Bounds.{AcceptedBounds, TableBounds}
use Rattle.table.specs.KindCounts.{extra_count}
use Rattle.cells.specs.Cells.{last_cell, cell_at, last_of, tank_of, draining_into, inlet_of, gauge_of, cells}
use Rattle.cells.proofs.CellLaws.{Cell, last, inner, cell-of, last-cell, inner-cell, inner-tanks, inlet-most, inlet-later, last-most, last-rises, cell-used}
use Rattle.elements.proofs.KindLaws.{same-false, same-true}

module _ (T n i : ℕ) (e : Element) (b : AcceptedElement T n i e) where
  -- a tank
  tank-bounds :
      (m c down : ℕ)
      → e.kind ≡ tanks
      → down ≤ m
      → (down ≡ 0) ⊎ (c + 1 < down)
      → ElementBounds T m c (tank_of e down)
  unfolding tank_of
  tank-bounds m c down k most later =
      record {
        kind = inr (inl refl);
        down = most;
        later = later;
        lag = λ _. b.lag (λ d. cc);
        no_lag = λ d. cc;
        area = omega arith;
        runoff = omega arith;
        first_discharge = b.first_discharge;
        first_variance = b.first_variance;
        system_noise = b.system_noise;
        rain_noise = omega arith;
      }

  one-bounds :
      (m c down : ℕ)
      → e.kind ≢ tanks
      → down ≤ m
      → (down ≡ 0) ⊎ (c + 1 < down)
      → ElementBounds T m c (draining_into e down)
  unfolding draining_into
  one-bounds m c down k most later =
      record {
        kind = b.single k;
        down = most;
        later = later;
        lag = b.lag;
        no_lag = b.no_lag;
        area = b.area;
        runoff = b.runoff;
        first_discharge = b.first_discharge;
        first_variance = b.first_variance;
        system_noise = b.system_noise;
        rain_noise = b.rain_noise;
      }

module _ (t : TableValues) (b : AcceptedBounds t) where
  abbrev many : ℕ
  many = t.elements + extra_count t

  last-bounds : (i : ℕ) → i < t.elements → ElementBounds t.step many (last_cell t i) (last_of t (t.element i))
  unfolding last_of
  last-bounds i l = go (same_kind e.kind tanks) refl
    where
      e : Element
      e = t.element i

      most : inlet_of t e.down ≤ many
      most = inlet-most t e.down (b.element i l).down

      later : (inlet_of t e.down ≡ 0) ⊎ (last_cell t i + 1 < inlet_of t e.down)
      later = inlet-later t i e.down (b.element i l).later

      go :
          (x : Bool)
          → same_kind e.kind tanks ≡ x
          → ElementBounds t.step many (last_cell t i) (cond x (tank_of e (inlet_of t e.down)) (draining_into e (inlet_of t e.down)))
      go true k = tank-bounds _ _ i e (b.element i l) many (last_cell t i) _ (same-true _ _ k) most later
      go false k = one-bounds _ _ i e (b.element i l) many (last_cell t i) _ (same-false _ _ k) most later

  cell-bounds : (c : ℕ) → Cell t c → ElementBounds t.step many c (cell_at t c)
  cell-bounds c (last i l e) = subst (λ (k : ℕ). ElementBounds t.step many k (cell_at t k)) (sym e) (rw (last-cell t i l) (last-bounds i l))
  cell-bounds c (inner i h n) =
      rw (inner-cell t h n)
      (tank-bounds _ _ i (t.element i) (b.element i h.used) many c (c + 2) (inner-tanks t h n) (omega (arith, n, last-most t i h.used)) (inr (omega arith)))

  in_use : (c : ℕ) → c < many → ElementBounds t.step many c ((cells t).element c)
  in_use c l = rw (cell-used t c l) (cell-bounds c (cell-of t c l))

  pub cells-bounds : TableBounds (cells t)
  unfolding cells gauge_of
  cells-bounds =
      record {
        step_least = b.step_least;
        leads_least = b.leads_least;
        leads_most = b.leads_most;
        elements_least = omega (arith, b.elements_least);
        elements_most = b.places_most;
        gauges_most = b.gauges_most;
        element = in_use;
        gauge = λ g l. let h = b.gauge g l in
            record {
              element_least = omega arith;
              element_most = omega (arith, last-most t ((t.gauge g).element - 1) (omega (arith, h.element_least, h.element_most)));
              noise = h.noise;
              curve = h.curve;
            };
        rising = λ g l.
            omega (arith, last-rises t ((t.gauge g).element - 1) ((t.gauge (g + 1)).element - 1) (omega (arith, b.rising g l, (b.gauge g (omega arith)).element_least)));
      }
