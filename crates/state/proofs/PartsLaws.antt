-- Two states that read the same are the same; so the places of a state may be written in two parts, the tanks above the last of their
-- elements and then the elements' own places, instead of cell by cell.
use Prim.Native.Nat.{ℕ, zero, suc, ◌+◌, ◌-◌, ◌/◌, ◌%◌, ◌≤◌, ◌<◌}
use mathlib.Core.Logic.{◌≢◌}
use mathlib.Core.Bool.{Bool, true, false}
use mathlib.Core.Path.{◌≡◌, refl, sym, ap, subst, ◌∙◌}
use borrow.Author.Tests.{leb-true, leb-false}
use native.Mathlib.Nat.{div-add-mod, mod-lt}
use native.Mathlib.Omega.{arith}
use lib.Dec.{leb}
use lib.ListN.{length, get_or}
use lib.Seq.{ext_get_or}
use Rattle.sizes.specs.Sizes.{most_places, state_numbers}
use Rattle.method.specs.declared.Figures.{Figures}
use Rattle.std.specs.Prelude.{Option}
use Rattle.elements.specs.declared.Kind.{Kind}
use Rattle.elements.specs.declared.Element.{Element}
use Rattle.elements.specs.Kinds.{reach, by_kind}
use Rattle.elements.proofs.KindLaws.{kind-both}
use Rattle.table.specs.Tables.{TableValues}
use Rattle.table.specs.KindCounts.{extra_count}
use Rattle.cells.specs.Cells.{last_cell, cells, cell_place}
use Rattle.cells.proofs.CellLaws.{
  Cell,
  cell_kind,
  by-last-kind,
  last-most,
  last-kind,
  last-place,
  inner-kind,
  cell-of,
  cell-used,
  place-in-use,
  places-apart,
  tank-found,
}
use Rattle.state.specs.declared.Rains.{Rains}
use Rattle.state.specs.States.{
  State,
  ElementState,
  elements_of,
  steps_of,
  place_start,
  figures_of,
  rains_of,
  place_of,
  put_figures,
  put_place,
  changed,
  figures_put,
  no_rains,
}
use Rattle.state.proofs.StateLaws.{
  PutsAt,
  PutsPlaces,
  puts-each,
  figures-change,
  figures-put,
  figures-put-rains,
  rains-put,
  rains-put-figures,
  changed-length,
  changed-elements,
  changed-steps,
  changed-later,
  changed-at,
}

-- ---- two states that read the same

number_at : (a b : State) (n k : ℕ) → get_or a n 0 ≡ get_or b n 0 → n ≡ k → get_or a k 0 ≡ get_or b k 0
number_at a b n k h e = subst (λ (m : ℕ). get_or a m 0 ≡ get_or b m 0) e h

-- number l of a place
number_same :
    (a b : State) (j l : ℕ) → l < 7 → place_of a j ≡ place_of b j → get_or a (place_start j + l) 0 ≡ get_or b (place_start j + l) 0
unfolding place_of figures_of rains_of
number_same a b j zero few e = number_at a b (place_start j) _ (ap (λ (p : ElementState). p.figures.discharge.0) e) (omega arith)
number_same a b j (suc zero) few e = number_at a b (place_start j + 1) _ (ap (λ (p : ElementState). p.figures.discharge_margin.0) e) (omega arith)
number_same a b j (suc (suc zero)) few e = number_at a b (place_start j + 2) _ (ap (λ (p : ElementState). p.figures.variance.0) e) (omega arith)
number_same a b j (suc (suc (suc zero))) few e = number_at a b (place_start j + 3) _ (ap (λ (p : ElementState). p.figures.variance_margin.0) e) (omega arith)
number_same a b j (suc (suc (suc (suc zero)))) few e = number_at a b (place_start j + 4) _ (ap (λ (p : ElementState). p.rains.first) e) (omega arith)
number_same a b j (suc (suc (suc (suc (suc zero))))) few e = number_at a b (place_start j + 5) _ (ap (λ (p : ElementState). p.rains.second) e) (omega arith)
number_same a b j (suc (suc (suc (suc (suc (suc zero)))))) few e = number_at a b (place_start j + 6) _ (ap (λ (p : ElementState). p.rains.third) e) (omega arith)
number_same a b j (suc (suc (suc (suc (suc (suc (suc l))))))) few e = absurd (omega arith)

pub same-state :
    (a b : State)
    → length a ≡ state_numbers
    → length b ≡ state_numbers
    → elements_of a ≡ elements_of b
    → steps_of a ≡ steps_of b
    → ((j : ℕ) → j < most_places → place_of a j ≡ place_of b j)
    → a ≡ b
same-state a b full also elements steps places = ext_get_or 0 a b (full ∙ sym also) at
  where
    at : (k : ℕ) → k < length a → get_or a k 0 ≡ get_or b k 0
    at zero l = elements
    at (suc zero) l = steps
    at (suc (suc k)) l =
        let parts = div-add-mod k 7 in
        let is : place_start (k / 7) + k % 7 ≡ suc (suc k) = omega (arith, parts) in
        subst (λ (n : ℕ). get_or a n 0 ≡ get_or b n 0) is
        (number_same a b (k / 7) (k % 7) (mod-lt k (omega arith)) (places (k / 7) (omega (arith, l, full, parts))))

-- ---- the places after changes, each of which puts figures and, of a basin, rains at a place of its own

unfoldable place_put : Option Kind → Figures → Rains → ElementState → ElementState
place_put kind f r p = record { figures = f; rains = by_kind kind r p.rains p.rains p.rains }

place_is : (s : State) (i : ℕ) {f : Figures} {r : Rains} → figures_of s i ≡ f → rains_of s i ≡ r → place_of s i ≡ record { figures = f; rains = r }
unfolding place_of
place_is s i p q = rw (p, q)

place-put :
    (kind : Option Kind) (f : Figures) (r : Rains) (i : ℕ) (s : State)
    → place_start i + 6 < length s
    → place_of (put_place kind f r i s) i ≡ place_put kind f r (place_of s i)
unfolding put_place place_put place_of
place-put kind f r i s room =
    let moved : place_start i + 6 < length (put_figures s i f) = omega (arith, room, (figures-change s i f).length) in
    let figures = figures-put s i room f in
    let kept = place_is (put_figures s i f) i figures (figures-put-rains s i room f) in
    kind-both (λ (x : State) (y : Rains). place_of x i ≡ record { figures = f; rains = y }) kind
    (λ _. place_is _ i (rains-put-figures (put_figures s i f) i moved r ∙ figures) (rains-put (put_figures s i f) i moved r)) (λ _. kept) (λ _. kept)
    (λ _ _ _. kept)

-- a reach's rains stay
tank-put :
    (k : Option Kind) (a : Figures) (b : Rains) (d : Figures) (z : ElementState)
    → k ≡ reach
    → a ≡ d
    → place_put k a b z ≡ place_put reach d no_rains z
unfolding place_put by_kind
tank-put k a b d z e h = rw (e, h)

module _
    {place : ℕ → ℕ} {kind : ℕ → Option Kind} {f : ℕ → Figures} {r : ℕ → Rains} {change : ℕ → State → State}
    (puts : PutsAt place kind change f r) where
  put-at :
      (s : State) (n i : ℕ)
      → i < n
      → ((j : ℕ) → j < n → i ≢ j → place i ≢ place j)
      → place_start (place i) + 6 < length s
      → place_of (changed change n s) (place i) ≡ place_put (kind i) (f i) (r i) (place_of s (place i))
  put-at s n i l apart room =
      changed-at place change (puts-each puts) s n i l apart
      ∙ (ap (λ (x : State). place_of x (place i)) (puts.at i (changed change i s))
      ∙ (place-put (kind i) (f i) (r i) (place i) (changed change i s) (omega (arith, room, changed-length place change (puts-each puts) s i))
      ∙ ap (place_put (kind i) (f i) (r i))
      (changed-later place change (puts-each puts) s i (place i) (λ j m. apart j (omega (arith, l, m)) (λ e. omega (arith, e, m))))))

-- ---- cell by cell, or in two parts

module _ (t : TableValues) (g : ℕ → Figures) (q : ℕ → Rains) where
  -- by the figures of each place: the tanks above the last of their elements, and the elements' own places
  abbrev pub tanks_part : ℕ → State → State
  tanks_part = figures_put (λ x. g (t.elements + x)) t.elements

  abbrev pub elements_part : ℕ → State → State
  elements_part i = put_place (t.element i).kind (g i) (q i) i

  tanks-puts : PutsAt (λ x. t.elements + x) (λ _. reach) tanks_part (λ x. g (t.elements + x)) (λ _. no_rains)
  unfolding put_place by_kind
  tanks-puts = record { at = λ x s. refl }

  elements-puts : PutsAt (λ i. i) (λ i. (t.element i).kind) elements_part g q
  elements-puts = record { at = λ i s. refl }

  module _
      (whole : ℕ → State → State) (f : ℕ → Figures) (r : ℕ → Rains) (puts : PutsPlaces t whole f r)
      (held : (c : ℕ) → c < (cells t).elements → g (cell_place t c) ≡ f c)
      (rains : (i : ℕ) → i < t.elements → r (last_cell t i) ≡ q i)
      (s : State) (full : length s ≡ state_numbers) (few : (cells t).elements ≤ most_places) where
    abbrev by_cells : State
    by_cells = changed whole (cells t).elements s

    abbrev middle : State
    middle = changed tanks_part (extra_count t) s

    abbrev by_parts : State
    by_parts = changed elements_part t.elements middle

    middle-length : length middle ≡ length s
    middle-length = changed-length _ _ (puts-each tanks-puts) s (extra_count t)

    -- of one cell
    cell-put : (c : ℕ) → c < (cells t).elements → place_of by_cells (cell_place t c) ≡ place_put ((cells t).element c).kind (f c) (r c) (place_of s (cell_place t c))
    unfolding cells
    cell-put c l =
        put-at puts s (cells t).elements c l (λ j m n. places-apart t c j l m n)
        (omega (arith, full, few, place-in-use t c l))

    -- the place of an element
    last-same : (i : ℕ) → i < t.elements → place_of by_cells i ≡ place_of by_parts i
    unfolding cells place_put
    last-same i l =
        let c = last_cell t i in
        let used = last-most t i l in
        let place = last-place t i l in
        let kind : ((cells t).element c).kind ≡ cell_kind (t.element i) = ap (λ (e : Element). e.kind) (cell-used t c used) ∙ last-kind t i l in
        let before : place_of middle i ≡ place_of s i =
        changed-later _ _ (puts-each tanks-puts) s (extra_count t) i (λ j _ e. omega (arith, e, l)) in
        let cell = rw place at (cell-put c used) in
        let figures : f c ≡ g i = sym (held c used) ∙ ap g place in
        let part : place_of by_parts i ≡ place_put (t.element i).kind (g i) (q i) (place_of middle i) =
        put-at elements-puts middle t.elements i l (λ j _ n. n) (omega (arith, middle-length, full, few, l)) in
        cell ∙ (rw (kind, figures, rains i l, by-last-kind (q i) (place_of s i).rains (place_of s i).rains (t.element i)) refl ∙ (ap (place_put (t.element i).kind (g i) (q i)) (sym before) ∙ sym part))

    -- the place of a tank above the last
    tank-kind : (c x : ℕ) → Cell t c → cell_place t c ≡ t.elements + x → ((cells t).element c).kind ≡ reach
    tank-kind c x (Cell.last i l e) place = absurd (omega (arith, l, place, ap (cell_place t) e ∙ last-place t i l))
    tank-kind c x (Cell.inner i h n) place =
        ap (λ (e : Element). e.kind) (cell-used t c (omega (arith, n, last-most t i h.used))) ∙ inner-kind t h n

    tank-same : (x : ℕ) → x < extra_count t → place_of by_cells (t.elements + x) ≡ place_of by_parts (t.elements + x)
    unfolding cells
    tank-same x l =
        let found = tank-found t x l in
        let c = found.cell in
        let p = t.elements + x in
        let kind = tank-kind c x (cell-of t c found.used) found.is in
        let cell = rw found.is at (cell-put c found.used) in
        let figures : f c ≡ g p = sym (held c found.used) ∙ ap g found.is in
        let after : place_of by_parts p ≡ place_of middle p =
        changed-later _ _ (puts-each elements-puts) middle t.elements p (λ j m e. omega (arith, e, m)) in
        let part : place_of middle p ≡ place_put reach (g p) no_rains (place_of s p) =
        put-at tanks-puts s (extra_count t) x l (λ j _ n e. n (omega (arith, e))) (omega (arith, full, few, l)) in
        cell ∙ (tank-put ((cells t).element c).kind (f c) (r c) (g p) (place_of s p) kind figures ∙ sym (after ∙ part))

    -- a place not in use
    rest-same : (p : ℕ) → t.elements + extra_count t ≤ p → place_of by_cells p ≡ place_of by_parts p
    unfolding cells
    rest-same p l =
        changed-later _ _ (puts-each puts) s (cells t).elements p (λ c m e. omega (arith, e, l, place-in-use t c m))
        ∙ sym (changed-later _ _ (puts-each elements-puts) middle t.elements p (λ j m e. omega (arith, e, l, m))
        ∙ changed-later _ _ (puts-each tanks-puts) s (extra_count t) p (λ x m e. omega (arith, e, l, m)))

    place_same : (p : ℕ) → place_of by_cells p ≡ place_of by_parts p
    place_same p = go (leb (suc p) t.elements) (leb (suc p) (t.elements + extra_count t)) refl refl
      where
        go :
            (x y : Bool)
            → leb (suc p) t.elements ≡ x
            → leb (suc p) (t.elements + extra_count t) ≡ y
            → place_of by_cells p ≡ place_of by_parts p
        go true y e k = last-same p (leb-true _ _ e)
        go false true e k =
            let from = leb-false (suc p) t.elements e in
            let to = leb-true (suc p) (t.elements + extra_count t) k in
            let is : t.elements + (p - t.elements) ≡ p = omega (arith, from) in
            subst (λ (n : ℕ). place_of by_cells n ≡ place_of by_parts n) is (tank-same (p - t.elements) (omega (arith, from, to)))
        go false false e k = rest-same p (omega (arith, leb-false (suc p) (t.elements + extra_count t) k))

    pub in_parts : changed whole (cells t).elements s ≡ changed elements_part t.elements (changed tanks_part (extra_count t) s)
    in_parts =
        same-state by_cells by_parts (changed-length _ _ (puts-each puts) s (cells t).elements ∙ full)
        (changed-length _ _ (puts-each elements-puts) middle t.elements ∙ (middle-length ∙ full))
        (changed-elements _ _ (puts-each puts) s (cells t).elements
        ∙ sym (changed-elements _ _ (puts-each elements-puts) middle t.elements ∙ changed-elements _ _ (puts-each tanks-puts) s (extra_count t)))
        (changed-steps _ _ (puts-each puts) s (cells t).elements
        ∙ sym (changed-steps _ _ (puts-each elements-puts) middle t.elements ∙ changed-steps _ _ (puts-each tanks-puts) s (extra_count t)))
        (λ p _. place_same p)
