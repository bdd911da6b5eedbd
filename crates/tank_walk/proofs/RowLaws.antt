-- The rows of a working space, by the river's cells: where each waits. Row 0 has what leaves the river, row e what element number e waits
-- for and then its figures; tanks above the last of their element stand in rows after these.
use Prim.Native.Nat.{ℕ, zero, suc, ◌+◌, ◌*◌, ◌≤◌, ◌<◌}
use mathlib.Core.Bool.{Bool, true, false, cond}
use mathlib.Core.Logic.{◌≢◌, ⊎_elim}
use mathlib.Core.Path.{◌≡◌, refl, sym, ap, subst, ◌∙◌}
use borrow.Author.Tests.{leb-true, leb-false, eqb-true, eq-eqb, ne_eqb}
use native.Mathlib.Nat.{eq-or-lt_of_le}
use native.Mathlib.Numerals.{add-one}
use native.Mathlib.Omega.{arith}
use lib.Dec.{leb, eqb}
use Rattle.table.specs.Tables.{TableValues}
use Rattle.elements.specs.Kinds.{extra_tanks}
use Rattle.table.specs.KindCounts.{extra_before}
use Rattle.cells.specs.Cells.{first_cell, last_cell, element_among, element_of, inlet_of}
use Rattle.cells.proofs.CellLaws.{CellIn, element-of, last-is, last-rises}
use Rattle.lead_walk.specs.Network.{Inlet, row, closed, opening}
use Rattle.tank_walk.specs.Rows.{resting, IsLast}
use Rattle.tank_walk.specs.Tanks.{tank_place}

-- ---- inlets

pub row_same : {a b : ℕ} → row a ≡ row b → a ≡ b
row_same e = cc

never-row : {r : ℕ} → closed ≡ row r → ⊥
never-row e = let z : ◌≡◌ {A = ℕ} 0 1 = cc in omega arith

pub opened-here : (inlet : ℕ → Inlet) (k r : ℕ) → opening inlet k r k ≡ row r
unfolding opening
opened-here inlet k r = rw (eq-eqb k k refl)

pub opened-other : (inlet : ℕ → Inlet) (k r n : ℕ) → n ≢ k → opening inlet k r n ≡ inlet n
unfolding opening
opened-other inlet k r n apart = rw (ne_eqb n k apart)

-- where it stands already
pub opened-same : (inlet : ℕ → Inlet) (k r : ℕ) → inlet k ≡ row r → (n : ℕ) → opening inlet k r n ≡ inlet n
unfolding opening
opened-same inlet k r e n = go (eqb n k) refl
  where
    go : (b : Bool) → eqb n k ≡ b → cond b (row r) (inlet n) ≡ inlet n
    go true q = sym (ap inlet (eqb-true n k q) ∙ e)
    go false q = refl

-- ---- tanks

-- the row of tank j, from 0, of an element with so many tanks above its last: one from row `scratch` on; the element's own for the last
unfoldable pub tank_row : ℕ → ℕ → ℕ → ℕ → ℕ
tank_row scratch own extra j = cond (eqb j extra) own (scratch + j)

-- its place, with rows of w places whose first lead stands at `from`
pub tank-place :
    (scratch own extra w from leads j : ℕ)
    → tank_place (record { own = own * w + from; first = scratch * w + from; width = w; leads = leads }) extra j
    ≡ tank_row scratch own extra j * w + from
unfolding tank_place tank_row
tank-place scratch own extra w from leads j = go (eqb j extra)
  where
    go : (b : Bool) → cond b (own * w + from) (scratch * w + from + j * w) ≡ cond b own (scratch + j) * w + from
    go true = refl
    go false = omega arith

pub tank-last : (scratch own extra : ℕ) → tank_row scratch own extra extra ≡ own
unfolding tank_row
tank-last scratch own extra = rw (eq-eqb extra extra refl)

pub tank-inner : (scratch own extra j : ℕ) → j < extra → tank_row scratch own extra j ≡ scratch + j
unfolding tank_row
tank-inner scratch own extra j l = rw (ne_eqb j extra (λ e. omega arith))

module _ (t : TableValues) where
  -- tank j of element i
  pub tank-in : (i j : ℕ) → i < t.elements → j ≤ extra_tanks (t.element i) → CellIn t i (first_cell t i + j)
  tank-in i j l m = record { used = l; from = omega arith; to = omega (arith, m, last-is t i) }

  rest_at : {i c : ℕ} → CellIn t i c → resting t (c + 1) ≡ cond (eqb c (first_cell t i)) (row (i + 1)) closed
  unfolding resting
  rest_at {i} {c} h = rw (add-one c, element-of t h)

  pub rest-first : (i : ℕ) → i < t.elements → resting t (first_cell t i + 1) ≡ row (i + 1)
  unfolding last_cell extra_before
  rest-first i l =
      rest_at (record { used = l; from = omega arith; to = omega arith }) ∙ rw (eq-eqb (first_cell t i) (first_cell t i) refl)

  pub rest-inner : (i j : ℕ) → i < t.elements → j < extra_tanks (t.element i) → resting t (first_cell t i + j + 2) ≡ closed
  rest-inner i j l m =
      let c = first_cell t i + (j + 1) in
      let h : CellIn t i c = tank-in i (j + 1) l (omega arith) in
      let e : first_cell t i + j + 2 ≡ c + 1 = omega arith in
      ap (resting t) e ∙ (rest_at h ∙ rw (ne_eqb c (first_cell t i) (λ q. omega (arith, q))))

  pub rest-down : (d : ℕ) → d ≤ t.elements → resting t (inlet_of t d) ≡ row d
  unfolding inlet_of resting
  rest-down zero l = refl
  rest-down (suc i) l = rest-first i l ∙ ap row (add-one i)

  among-few : (n c : ℕ) → element_among t (suc n) c ≤ n
  unfolding element_among
  among-few zero c = go (leb (first_cell t zero) c)
    where
      go : (b : Bool) → cond b 0 0 ≤ 0
      go true = omega arith
      go false = omega arith
  among-few (suc n) c = go (leb (first_cell t (suc n)) c) (among-few n c)
    where
      go : (b : Bool) → element_among t (suc n) c ≤ n → cond b (suc n) (element_among t (suc n) c) ≤ suc n
      go true h = omega arith
      go false h = omega arith

  of-used : (c : ℕ) → 0 < t.elements → element_of t c < t.elements
  unfolding element_of
  of-used c l = go t.elements l
    where
      go : (n : ℕ) → 0 < n → element_among t n c < n
      go zero m = absurd (omega arith)
      go (suc n) m = omega (arith, among-few n c)

  -- a row with sums in it says whose they are
  pub record RestsIn (k r : ℕ) : Type 0 where
    pub used : r ≤ t.elements
    pub is : k ≡ inlet_of t r

  pub rest-row : (k r : ℕ) → 0 < t.elements → resting t k ≡ row r → RestsIn k r
  unfolding resting inlet_of
  rest-row zero r some e = subst (RestsIn zero) (row_same e) (record { used = omega arith; is = refl })
  rest-row (suc c) r some e = go (eqb c (first_cell t (element_of t c))) refl e
    where
      go : (b : Bool) → eqb c (first_cell t (element_of t c)) ≡ b → cond b (row (element_of t c + 1)) closed ≡ row r → RestsIn (suc c) r
      go true q f =
          subst (RestsIn (suc c)) (row_same f)
          (record {
            used = omega (arith, of-used c some);
            is = rw (add-one (element_of t c)) (omega (arith, eqb-true c (first_cell t (element_of t c)) q));
          })
      go false q f = absurd (never-row f)

  -- the last cell of an element above tank c of element i is of an element before
  pub kept-before : {i k c : ℕ} → CellIn t i c → k < c → IsLast t k → element_of t k < i
  kept-before {i} {k} {c} h l e = go (leb i (element_of t k)) refl
    where
      go : (b : Bool) → leb i (element_of t k) ≡ b → element_of t k < i
      go false q = leb-false _ _ q
      go true q = absurd (omega (arith, l, e, h.to, not-before (leb-true _ _ q)))
        where
          not-before : i ≤ element_of t k → last_cell t i ≤ last_cell t (element_of t k)
          not-before m = ⊎_elim (λ q. rw q (omega arith)) (λ n. omega (arith, last-rises t i (element_of t k) n)) (eq-or-lt_of_le m)
