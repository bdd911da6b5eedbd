-- The cells that a gauge's water reaches are of elements that it reaches.
use Prim.Native.Nat.{ℕ, ◌+◌, ◌<◌}
use mathlib.Core.Path.{◌≡◌, refl, sym, ap, subst, ◌∙◌}
use native.Mathlib.Omega.{arith}
use Rattle.elements.specs.Kinds.{dam}
use Rattle.table.specs.Tables.{TableValues}
use Rattle.cells.specs.Cells.{last_cell, cells}
use Rattle.cells.proofs.CellLaws.{CellIn, last-in}
use Rattle.cells.proofs.DrainLaws.{Drained, within, across, drained, one-element, first_of, dam-cell}
use Rattle.independence.specs.Independence.{Reached, here, below}

module _ (t : TableValues) (j : ℕ) (used : j < t.elements) where
  abbrev At : ℕ → Type 0
  At i = Reached t (j + 1) (i + 1)

  reached-at : {i k : ℕ} → i ≡ k → At i → At k
  reached-at e r = subst At e r

  -- one cell further
  next-reached :
      {b k i : ℕ}
      → Drained t b k
      → CellIn t i k
      → (((cells t).element k).kind ≡ dam → ⊥)
      → ((m : ℕ) → CellIn t m b → At m)
      → At i
  next-reached (within m from to _) h not-dam above = reached-at (one-element t to h) (above m from)
  next-reached {i = i} (across m d l is drains first) h not-dam above =
      let same : i ≡ d = first_of t h first in
      reached-at (sym same)
      (below (above m (subst (CellIn t m) (sym is) (last-in t l))) drains
      (λ q. not-dam (ap (λ (x : ℕ). ((cells t).element x).kind) first ∙ dam-cell t d (subst (λ (x : ℕ). x < t.elements) same h.used) q)))

  -- from the last cell of element j
  element-reached : {n : ℕ} → Reached (cells t) (last_cell t j + 1) n → (c i : ℕ) → n ≡ c + 1 → CellIn t i c → At i
  element-reached here c i e h =
      let at : last_cell t j ≡ c = omega (arith, e) in
      reached-at (one-element t (subst (CellIn t j) at (last-in t used)) h) here
  element-reached (below {i = b} {k = k} r down not-dam) c i e h =
      let at : c ≡ k = omega (arith, e) in
      next-reached (drained t b k down) (subst (CellIn t i) at h) not-dam (λ m from. element-reached r b m refl from)

  pub last-reached : (i : ℕ) → i < t.elements → Reached (cells t) (last_cell t j + 1) (last_cell t i + 1) → At i
  last-reached i l r = element-reached r (last_cell t i) i refl (last-in t l)

-- from no element none is reached
pub none-reached : {t : TableValues} {n : ℕ} → Reached t 0 n → n ≡ 0
none-reached here = refl
none-reached (below r d k) = absurd (omega (arith, none-reached r))
