-- Laws of a river's cells: which element a cell is of, and where it stands.
use Prim.Native.Nat.{ℕ, zero, suc, ◌+◌, ◌-◌, ◌≤◌, ◌<◌}
use mathlib.Core.Bool.{Bool, true, false, cond}
use mathlib.Core.Logic.{◌⊎◌, inl, inr, ◌≢◌, ⊎_elim}
use mathlib.Core.Path.{◌≡◌, refl, sym, ap, ◌∙◌}
use borrow.Author.Tests.{leb-true, leb-false, le-leb, lt-leb, eq-eqb, ne_eqb}
use native.Mathlib.Nat.{eq-or-lt_of_le}
use native.Mathlib.Numerals.{add-one}
use native.Mathlib.Omega.{arith}
use lib.Dec.{leb}
use Rattle.elements.specs.declared.Element.{Element}
use Rattle.elements.specs.Kinds.{basin, reach, tanks, by_kind, extra_tanks, same_kind}
use Rattle.elements.specs.Elements.{no_element}
use Rattle.table.specs.Tables.{TableValues}
use Rattle.table.proofs.InUseLaws.{below-used}
use Rattle.table.proofs.CountLaws.{extra-rise}
use Rattle.table.specs.KindCounts.{extra_before, extra_count}
use Rattle.cells.specs.Cells.{first_cell, last_cell, element_among, element_of, cell_at, cell_place, last_of, tank_of, draining_into, inlet_of, cells}
use Rattle.elements.proofs.KindLaws.{ne-same, same-true}
use Rattle.std.specs.Prelude.{Option}
use Rattle.elements.specs.declared.Kind.{Kind}

-- what an element's last cell is: a reach of tanks ends in a reach
unfoldable pub cell_kind : Element → Option Kind
cell_kind e = cond (same_kind e.kind tanks) reach e.kind

pub one-kind : (e : Element) → e.kind ≢ tanks → cell_kind e ≡ e.kind
unfolding cell_kind
one-kind e n = rw (ne-same e.kind tanks n)

-- so what only a basin or a dam decides is the same for the element
module _ {A : Type 0} (of_basin none of_dam : A) where
  pub by-last-kind : (e : Element) → by_kind (cell_kind e) of_basin none of_dam none ≡ by_kind e.kind of_basin none of_dam none
  unfolding cell_kind by_kind
  by-last-kind e = go (same_kind e.kind tanks) refl
    where
      tanks-none : (k : Option Kind) → k ≡ tanks → by_kind reach of_basin none of_dam none ≡ by_kind k of_basin none of_dam none
      tanks-none k q = rw q

      go : (x : Bool) → same_kind e.kind tanks ≡ x → by_kind (cond x reach e.kind) of_basin none of_dam none ≡ by_kind e.kind of_basin none of_dam none
      go true q = tanks-none e.kind (same-true _ _ q)
      go false q = refl

-- cell c is of element i
pub record CellIn (t : TableValues) (i c : ℕ) : Type 0 where
  pub used : i < t.elements
  pub from : first_cell t i ≤ c
  pub to : c ≤ last_cell t i

order : (a b : ℕ) → (a < b) ⊎ ((a ≡ b) ⊎ (b < a))
order a b = go (leb (suc a) b) refl
  where
    go : (x : Bool) → leb (suc a) b ≡ x → (a < b) ⊎ ((a ≡ b) ⊎ (b < a))
    go true e = inl (leb-true _ _ e)
    go false e =
        let h = leb-false (suc a) b e in
        inr (⊎_elim (λ (q : b ≡ a). inl (sym q)) (λ l. inr l) (eq-or-lt_of_le (omega (arith, h))))

module _ (t : TableValues) where
  -- the last cell of an element stands after the tanks above it, the next element's first after it
  pub last-is : (i : ℕ) → last_cell t i ≡ first_cell t i + extra_tanks (t.element i)
  unfolding last_cell extra_before
  last-is i = omega arith

  pub first_next : (i : ℕ) → first_cell t (i + 1) ≡ last_cell t i + 1
  unfolding last_cell
  first_next i = rw (add-one i) (omega arith)

  pub last-most : (i : ℕ) → i < t.elements → last_cell t i < t.elements + extra_count t
  unfolding last_cell
  last-most i l = omega (arith, extra-rise t (suc i) t.elements l)

  among : (i c n : ℕ) → i < n → first_cell t i ≤ c → c ≤ last_cell t i → element_among t n c ≡ i
  unfolding element_among last_cell
  among i c zero l a b = absurd (omega arith)
  among i c (suc n) l a b =
      ⊎_elim (λ e. here (sym e))
      (λ m. rw (lt-leb (first_cell t n) c (omega (arith, b, extra-rise t (suc i) n m))) (among i c n m a b))
      (eq-or-lt_of_le (omega arith))
    where
      here : n ≡ i → cond (leb (first_cell t n) c) n (element_among t n c) ≡ i
      here e = rw (e, le-leb (first_cell t i) c a)

  pub element-of : {i c : ℕ} → CellIn t i c → element_of t c ≡ i
  unfolding element_of
  element-of {i} {c} h = among i c t.elements h.used h.from h.to

  -- every cell is of an element
  pub record Found (c : ℕ) : Type 0 where
    pub element : ℕ
    pub at : CellIn t element c

  found_among : (c n : ℕ) → n ≤ t.elements → c < n + extra_before t n → Found c
  unfolding extra_before last_cell
  found_among c zero m l = absurd (omega arith)
  found_among c (suc n) m l = go (leb (first_cell t n) c) refl (λ k. found_among c n (omega arith) k)
    where
      go : (b : Bool) → leb (first_cell t n) c ≡ b → (c < n + extra_before t n → Found c) → Found c
      go true e earlier = record { element = n; at = record { used = m; from = leb-true _ _ e; to = omega (arith, l) } }
      go false e earlier = earlier (leb-false _ _ e)

  pub found : (c : ℕ) → c < t.elements + extra_count t → Found c
  found c l = found_among c t.elements (omega arith) l

  -- the first and the last cell of an element
  pub first-in : {i : ℕ} → i < t.elements → CellIn t i (first_cell t i)
  unfolding last_cell extra_before
  first-in l = record { used = l; from = omega arith; to = omega arith }

  pub last-in : {i : ℕ} → i < t.elements → CellIn t i (last_cell t i)
  unfolding last_cell extra_before
  last-in l = record { used = l; from = omega arith; to = omega arith }

  -- where it stands
  pub last-place : (i : ℕ) → i < t.elements → cell_place t (last_cell t i) ≡ i
  unfolding cell_place
  last-place i l = rw (element-of (last-in l), eq-eqb (last_cell t i) (last_cell t i) refl)

  pub inner-place : {i c : ℕ} → CellIn t i c → c ≢ last_cell t i → cell_place t c ≡ t.elements + (c - i)
  unfolding cell_place
  inner-place {i} {c} h n = rw (element-of h, ne_eqb c (last_cell t i) n)

  -- a cell is the last of its element or another
  pub data Cell (c : ℕ) : Type 0 where
    last : (i : ℕ) → i < t.elements → c ≡ last_cell t i → Cell c
    inner : (i : ℕ) → CellIn t i c → c < last_cell t i → Cell c

  pub cell-of : (c : ℕ) → c < t.elements + extra_count t → Cell c
  cell-of c l =
      let f = found c l in
      ⊎_elim (λ e. last f.element f.at.used e) (λ m. inner f.element f.at m) (eq-or-lt_of_le f.at.to)

  place-most : (c : ℕ) → Cell c → cell_place t c < t.elements + extra_count t
  unfolding last_cell
  place-most c (last i l e) = rw (e, last-place i l) (omega (arith, l))
  place-most c (inner i h n) =
      rw (inner-place h (λ e. omega (arith, e, n))) (omega (arith, n, h.from, extra-rise t (suc i) t.elements h.used))

  pub place-in-use : (c : ℕ) → c < t.elements + extra_count t → cell_place t c < t.elements + extra_count t
  place-in-use c l = place-most c (cell-of c l)

  -- which element, by the first cell of a later one
  before-next : {i k c d : ℕ} → CellIn t i c → CellIn t k d → i < k → c < d
  unfolding last_cell
  before-next {i} {k} h g l = omega (arith, h.to, g.from, extra-rise t (suc i) k l)

  -- two cells never stand at one place
  apart-at : (c d : ℕ) → Cell c → Cell d → c < d → cell_place t c ≢ cell_place t d
  unfolding last_cell
  apart-at c d (last i l e) (last k m f) less = rw (e, f, last-place i l, last-place k m) (λ q. omega (arith, less, e, f, ap (λ (n : ℕ). n + extra_before t (suc n)) q))
  apart-at c d (last i l e) (inner k h n) less = rw (e, last-place i l, inner-place h (λ q. omega (arith, q, n))) (λ q. omega (arith, q, l))
  apart-at c d (inner i h n) (last k m f) less = rw (f, last-place k m, inner-place h (λ q. omega (arith, q, n))) (λ q. omega (arith, q, m))
  apart-at c d (inner i h n) (inner k g m) less =
      rw (inner-place h (λ q. omega (arith, q, n)), inner-place g (λ q. omega (arith, q, m)))
      (λ q. ⊎_elim (λ up. far up q) (λ same. ⊎_elim (λ e. near e q) (λ back. omega (arith, less, before-next g h back)) same) (order i k))
    where
      far : i < k → t.elements + (c - i) ≡ t.elements + (d - k) → ⊥
      far up q = omega (arith, q, n, g.from, h.from, extra-rise t (suc i) k up)

      near : i ≡ k → t.elements + (c - i) ≡ t.elements + (d - k) → ⊥
      near e q = omega (arith, q, e, less, h.from, g.from)

  pub places-apart : (c d : ℕ) → c < t.elements + extra_count t → d < t.elements + extra_count t → c ≢ d → cell_place t c ≢ cell_place t d
  places-apart c d l m n q =
      ⊎_elim (λ up. apart-at c d (cell-of c l) (cell-of d m) up q)
      (λ rest. ⊎_elim n (λ down. apart-at d c (cell-of d m) (cell-of c l) down (sym q)) rest) (order c d)

  -- what a cell is
  pub last-cell : (i : ℕ) → i < t.elements → cell_at t (last_cell t i) ≡ last_of t (t.element i)
  unfolding cell_at
  last-cell i l = rw (element-of (last-in l), eq-eqb (last_cell t i) (last_cell t i) refl)

  pub inner-cell : {i c : ℕ} → CellIn t i c → c < last_cell t i → cell_at t c ≡ tank_of (t.element i) (c + 2)
  unfolding cell_at
  inner-cell {i} {c} h n = rw (element-of h, ne_eqb c (last_cell t i) (λ q. omega (arith, q, n)))

  -- the cells that water comes to
  pub inlet-most : (d : ℕ) → d ≤ t.elements → inlet_of t d ≤ t.elements + extra_count t
  unfolding inlet_of
  inlet-most zero l = omega arith
  inlet-most (suc k) l = omega (arith, extra-rise t k t.elements (omega arith))

  pub inlet-later : (i d : ℕ) → (d ≡ 0) ⊎ (i + 1 < d) → (inlet_of t d ≡ 0) ⊎ (last_cell t i + 1 < inlet_of t d)
  unfolding inlet_of last_cell
  inlet-later i zero h = inl refl
  inlet-later i (suc k) h = ⊎_elim (λ e. absurd (omega (arith, e))) (λ l. inr (omega (arith, l, extra-rise t (suc i) k (omega (arith, l))))) h

  pub last-rises : (i k : ℕ) → i < k → last_cell t i < last_cell t k
  unfolding last_cell
  last-rises i k l = omega (arith, extra-rise t (suc i) (suc k) (omega arith))

  -- only a reach of tanks has a cell above its last
  pub inner-tanks : {i c : ℕ} → CellIn t i c → c < last_cell t i → (t.element i).kind ≡ tanks
  unfolding last_cell extra_before extra_tanks
  inner-tanks {i} {c} h n = go (same_kind (t.element i).kind tanks) refl h.from n
    where
      go : (x : Bool) → same_kind (t.element i).kind tanks ≡ x → i + extra_before t i ≤ c → c < i + (extra_before t i + cond x ((t.element i).runoff - 1) 0) → (t.element i).kind ≡ tanks
      go true k a b = same-true _ _ k
      go false k a b = absurd (omega (arith, a, b))

  -- a cell in use
  pub cell-used : (c : ℕ) → c < t.elements + extra_count t → (cells t).element c ≡ cell_at t c
  unfolding cells
  cell-used c l = below-used _ no_element (cell_at t) c l

  pub last-in-use : (i : ℕ) → i < t.elements → last_cell t i < (cells t).elements
  unfolding cells
  last-in-use i l = last-most i l

  -- the kinds of the cells
  pub last-kind : (i : ℕ) → i < t.elements → (cell_at t (last_cell t i)).kind ≡ cell_kind (t.element i)
  unfolding last_of cell_kind tank_of draining_into
  last-kind i l = ap (λ (e : Element). e.kind) (last-cell i l) ∙ go (same_kind (t.element i).kind tanks)
    where
      go : (x : Bool) → (cond x (tank_of (t.element i) (inlet_of t (t.element i).down)) (draining_into (t.element i) (inlet_of t (t.element i).down))).kind ≡ cond x reach (t.element i).kind
      go true = refl
      go false = refl

  pub last-basin : (i : ℕ) → i < t.elements → (cell_at t (last_cell t i)).kind ≡ basin → (t.element i).kind ≡ basin
  unfolding cell_kind
  last-basin i l k = go (same_kind (t.element i).kind tanks) (sym (last-kind i l) ∙ k)
    where
      go : (x : Bool) → cond x reach (t.element i).kind ≡ basin → (t.element i).kind ≡ basin
      go true e = cc
      go false e = e

  pub inner-kind : {i c : ℕ} → CellIn t i c → c < last_cell t i → (cell_at t c).kind ≡ reach
  unfolding tank_of
  inner-kind h n = ap (λ (e : Element). e.kind) (inner-cell h n)

  -- the place of an inner cell is one after the N elements'
  pub record InnerPlace (c : ℕ) : Type 0 where
    pub tank : ℕ
    pub few : tank < extra_count t
    pub is : cell_place t c ≡ t.elements + tank

  pub inner-at : {i c : ℕ} → CellIn t i c → c < last_cell t i → InnerPlace c
  unfolding last_cell
  inner-at {i} {c} h n =
      record {
        tank = c - i;
        few = omega (arith, n, h.from, extra-rise t (suc i) t.elements h.used);
        is = inner-place h (λ e. omega (arith, e, n));
      }

  -- every place of a tank is that of a cell
  pub record TankFound (x : ℕ) : Type 0 where
    pub cell : ℕ
    pub used : cell < (cells t).elements
    pub is : cell_place t cell ≡ t.elements + x

  tank-among : (x n : ℕ) → n ≤ t.elements → x < extra_before t n → TankFound x
  unfolding extra_before last_cell cells
  tank-among x zero m l = absurd (omega arith)
  tank-among x (suc n) m l = go (leb (extra_before t n) x) refl (λ k. tank-among x n (omega arith) k)
    where
      go : (b : Bool) → leb (extra_before t n) x ≡ b → (x < extra_before t n → TankFound x) → TankFound x
      go true e earlier =
          let h : CellIn t n (n + x) = record { used = m; from = omega (arith, leb-true (extra_before t n) x e); to = omega (arith, l) } in
          record {
            cell = n + x;
            used = omega (arith, l, extra-rise t (suc n) t.elements m);
            is = inner-place h (λ q. omega (arith, q, l)) ∙ omega arith;
          }
      go false e earlier = earlier (leb-false _ _ e)

  pub tank-found : (x : ℕ) → x < extra_count t → TankFound x
  tank-found x l = tank-among x t.elements (omega arith) l
