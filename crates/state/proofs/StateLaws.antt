-- Laws of the state: what a change of one place leaves, the start and rule 8.
use Prim.Native.Nat.{ℕ, zero, suc, ◌+◌, ◌≤◌, ◌<◌}
use mathlib.Core.Bool.{Bool, true, false, cond, and-false}
use mathlib.Core.List.{List}
use mathlib.Core.Logic.{◌≢◌, ⊎_elim}
use mathlib.Core.Path.{◌≡◌, refl, sym, ap, subst, ◌∙◌}
use native.Mathlib.Nat.{eq-or-lt_of_le}
use native.Mathlib.Omega.{arith}
use native.Mathlib.Numerals.{add-one}
use lib.ListN.{length, get_or, set, length-set}
use lib.Seq.{get_or-set_same, get_or-set_other}
use Rattle.sizes.specs.Sizes.{most_places, state_numbers}
use Rattle.fields.specs.Ranges.{all_below}
use Rattle.method.specs.declared.Figures.{Figures}
use Rattle.elements.specs.declared.Element.{Element}
use Rattle.elements.specs.Elements.{element_at}
use Rattle.elements.specs.Kinds.{basin, tanks, by_kind, extra_tanks, same_kind}
use Rattle.elements.proofs.KindLaws.{by-basin, by-tanks, kind-cases, same-true}
use Rattle.table.specs.Tables.{TableValues}
use Rattle.table.specs.KindCounts.{extra_before, extra_count}
use Rattle.table.specs.InUse.{table_in}
use Rattle.table.proofs.InUseLaws.{element-read}
use Rattle.cells.specs.Cells.{first_cell, last_cell, last_of, tank_of, draining_into, inlet_of, cells, cell_place}
use Rattle.cells.proofs.CellLaws.{
  CellIn,
  last-is,
  first_next,
  last-most,
  last-place,
  inner-place,
  place-in-use,
  places-apart,
  last-cell,
  inner-cell,
  cell-used,
}
use Rattle.state.specs.declared.Rains.{Rains}
use Rattle.state.specs.States.{
  State,
  ElementState,
  elements_of,
  steps_of,
  place_start,
  figures_of,
  rains_of,
  cell_figures,
  cell_rains,
  place_of,
  put_elements,
  put_figures,
  put_rains,
  put_place,
  changed,
  figures_put,
  no_rains,
}
use Rattle.state.specs.Rules.{figures_fit, elements_fit, tanks_fit, state_fits}
use Rattle.state.specs.Start.{first_figures, first_put, started}
use Rattle.std.specs.Prelude.{Option}
use Rattle.elements.specs.declared.Kind.{Kind}

-- ---- one number changed

-- the place of an element none of whose numbers is changed
module _ (s : State) (k v : ℕ) where
  pub number-apart :
      (j : ℕ)
      → ((l : ℕ) → l < 7 → place_start j + l ≢ k)
      → place_of (set s k v) j ≡ place_of s j
  unfolding place_of figures_of rains_of
  number-apart j apart =
      rw (
        get_or-set_other s k (place_start j) v 0 (λ e. apart 0 (omega arith) (omega (arith, e))),
        get_or-set_other s k (place_start j + 1) v 0 (apart 1 (omega arith)),
        get_or-set_other s k (place_start j + 2) v 0 (apart 2 (omega arith)),
        get_or-set_other s k (place_start j + 3) v 0 (apart 3 (omega arith)),
        get_or-set_other s k (place_start j + 4) v 0 (apart 4 (omega arith)),
        get_or-set_other s k (place_start j + 5) v 0 (apart 5 (omega arith)),
        get_or-set_other s k (place_start j + 6) v 0 (apart 6 (omega arith)),
      )

-- ---- one place changed

-- nothing but the place of element i is changed
pub record ChangesAt (i : ℕ) (s after : State) : Type 0 where
  pub length : length after ≡ length s
  pub elements : elements_of after ≡ elements_of s
  pub steps : steps_of after ≡ steps_of s
  pub others : (j : ℕ) → j ≢ i → place_of after j ≡ place_of s j

pub changes-then : {i : ℕ} {s next after : State} → ChangesAt i s next → ChangesAt i next after → ChangesAt i s after
changes-then c d =
    record {
      length = d.length ∙ c.length;
      elements = d.elements ∙ c.elements;
      steps = d.steps ∙ c.steps;
      others = λ j n. d.others j n ∙ c.others j n;
    }

-- one of its seven numbers
set-changes : (s : State) (i k v : ℕ) → k < 7 → ChangesAt i s (set s (place_start i + k) v)
set-changes s i k v l =
    record {
      length = length-set s (place_start i + k) v;
      elements = get_or-set_other s (place_start i + k) 0 v 0 (λ e. omega (arith, e));
      steps = get_or-set_other s (place_start i + k) 1 v 0 (λ e. omega (arith, e));
      others = λ j n. number-apart s (place_start i + k) v j (λ m few e. n (omega (arith, e, few, l)));
    }

first-changes : (s : State) (i v : ℕ) → ChangesAt i s (set s (place_start i) v)
first-changes s i v =
    record {
      length = length-set s (place_start i) v;
      elements = get_or-set_other s (place_start i) 0 v 0 (λ e. omega (arith, e));
      steps = get_or-set_other s (place_start i) 1 v 0 (λ e. omega (arith, e));
      others = λ j n. number-apart s (place_start i) v j (λ m few e. n (omega (arith, e, few)));
    }

pub figures-change : (s : State) (i : ℕ) (f : Figures) → ChangesAt i s (put_figures s i f)
unfolding put_figures
figures-change s i f =
    changes-then
    (changes-then (changes-then (first-changes s i f.discharge.0) (set-changes _ i 1 f.discharge_margin.0 (omega arith)))
    (set-changes _ i 2 f.variance.0 (omega arith)))
    (set-changes _ i 3 f.variance_margin.0 (omega arith))

pub rains-change : (s : State) (i : ℕ) (r : Rains) → ChangesAt i s (put_rains s i r)
unfolding put_rains
rains-change s i r =
    changes-then
    (changes-then (set-changes s i 4 r.first (omega arith)) (set-changes _ i 5 r.second (omega arith)))
    (set-changes _ i 6 r.third (omega arith))

-- what stands there
module _ (s : State) (i : ℕ) (room : place_start i + 6 < length s) where
  module _ (f : Figures) where
    abbrev s₁ : State
    s₁ = set s (place_start i) f.discharge.0

    abbrev s₂ : State
    s₂ = set s₁ (place_start i + 1) f.discharge_margin.0

    abbrev s₃ : State
    s₃ = set s₂ (place_start i + 2) f.variance.0

    pub figures-put : figures_of (put_figures s i f) i ≡ f
    unfolding figures_of put_figures
    figures-put =
        rw (
          get_or-set_other s₃ (place_start i + 3) (place_start i) f.variance_margin.0 0 (λ e. omega (arith, e)),
          get_or-set_other s₂ (place_start i + 2) (place_start i) f.variance.0 0 (λ e. omega (arith, e)),
          get_or-set_other s₁ (place_start i + 1) (place_start i) f.discharge_margin.0 0 (λ e. omega (arith, e)),
          get_or-set_same s (place_start i) f.discharge.0 0 (omega (arith, room)),
          get_or-set_other s₃ (place_start i + 3) (place_start i + 1) f.variance_margin.0 0 (λ e. omega (arith, e)),
          get_or-set_other s₂ (place_start i + 2) (place_start i + 1) f.variance.0 0 (λ e. omega (arith, e)),
          get_or-set_same s₁ (place_start i + 1) f.discharge_margin.0 0 (simp length-set (omega (arith, room))),
          get_or-set_other s₃ (place_start i + 3) (place_start i + 2) f.variance_margin.0 0 (λ e. omega (arith, e)),
          get_or-set_same s₂ (place_start i + 2) f.variance.0 0 (simp length-set (omega (arith, room))),
          get_or-set_same s₃ (place_start i + 3) f.variance_margin.0 0 (simp length-set (omega (arith, room))),
        )

    rain-apart : (k : ℕ) → 4 ≤ k → get_or (put_figures s i f) (place_start i + k) 0 ≡ get_or s (place_start i + k) 0
    unfolding put_figures
    rain-apart k l =
        get_or-set_other s₃ (place_start i + 3) (place_start i + k) f.variance_margin.0 0 (λ e. omega (arith, e, l))
        ∙ (get_or-set_other s₂ (place_start i + 2) (place_start i + k) f.variance.0 0 (λ e. omega (arith, e, l))
        ∙ (get_or-set_other s₁ (place_start i + 1) (place_start i + k) f.discharge_margin.0 0 (λ e. omega (arith, e, l))
        ∙ get_or-set_other s (place_start i) (place_start i + k) f.discharge.0 0 (λ e. omega (arith, e, l))))

    pub figures-put-rains : rains_of (put_figures s i f) i ≡ rains_of s i
    unfolding rains_of
    figures-put-rains = rw (rain-apart 4 (omega arith), rain-apart 5 (omega arith), rain-apart 6 (omega arith))

  module _ (r : Rains) where
    abbrev r₁ : State
    r₁ = set s (place_start i + 4) r.first

    abbrev r₂ : State
    r₂ = set r₁ (place_start i + 5) r.second

    pub rains-put : rains_of (put_rains s i r) i ≡ r
    unfolding rains_of put_rains
    rains-put =
        rw (
          get_or-set_other r₂ (place_start i + 6) (place_start i + 4) r.third 0 (λ e. omega (arith, e)),
          get_or-set_other r₁ (place_start i + 5) (place_start i + 4) r.second 0 (λ e. omega (arith, e)),
          get_or-set_same s (place_start i + 4) r.first 0 (omega (arith, room)),
          get_or-set_other r₂ (place_start i + 6) (place_start i + 5) r.third 0 (λ e. omega (arith, e)),
          get_or-set_same r₁ (place_start i + 5) r.second 0 (simp length-set (omega (arith, room))),
          get_or-set_same r₂ (place_start i + 6) r.third 0 (simp length-set (omega (arith, room))),
        )

    number-kept : (k : ℕ) → k < place_start i + 4 → get_or (put_rains s i r) k 0 ≡ get_or s k 0
    unfolding put_rains
    number-kept k l =
        get_or-set_other r₂ (place_start i + 6) k r.third 0 (λ e. omega (arith, e, l))
        ∙ (get_or-set_other r₁ (place_start i + 5) k r.second 0 (λ e. omega (arith, e, l))
        ∙ get_or-set_other s (place_start i + 4) k r.first 0 (λ e. omega (arith, e, l)))

    pub rains-put-figures : figures_of (put_rains s i r) i ≡ figures_of s i
    unfolding figures_of
    rains-put-figures =
        rw (number-kept (place_start i) (omega arith), number-kept (place_start i + 1) (omega arith), number-kept (place_start i + 2) (omega arith), number-kept (place_start i + 3) (omega arith))

-- ---- the first n places changed

-- each change is one of its own place
pub record ChangesEach (place : ℕ → ℕ) (change : ℕ → State → State) : Type 0 where
  pub at : (i : ℕ) (s : State) → ChangesAt (place i) s (change i s)

module _ (place : ℕ → ℕ) (change : ℕ → State → State) (each : ChangesEach place change) (s : State) where
  pub changed-length : (n : ℕ) → length (changed change n s) ≡ length s
  unfolding changed
  changed-length zero = refl
  changed-length (suc n) = (each.at n (changed change n s)).length ∙ changed-length n

  pub changed-elements : (n : ℕ) → elements_of (changed change n s) ≡ elements_of s
  unfolding changed
  changed-elements zero = refl
  changed-elements (suc n) = (each.at n (changed change n s)).elements ∙ changed-elements n

  pub changed-steps : (n : ℕ) → steps_of (changed change n s) ≡ steps_of s
  unfolding changed
  changed-steps zero = refl
  changed-steps (suc n) = (each.at n (changed change n s)).steps ∙ changed-steps n

  -- a place whose change has not come yet, or never comes
  pub changed-later : (n p : ℕ) → ((j : ℕ) → j < n → p ≢ place j) → place_of (changed change n s) p ≡ place_of s p
  unfolding changed
  changed-later zero p apart = refl
  changed-later (suc n) p apart =
      (each.at n (changed change n s)).others p (apart n (omega arith)) ∙ changed-later n p (λ j l. apart j (omega arith))

  -- a place after its change, where no two changes have one place
  pub changed-at :
      (n i : ℕ)
      → i < n
      → ((j : ℕ) → j < n → i ≢ j → place i ≢ place j)
      → place_of (changed change n s) (place i) ≡ place_of (change i (changed change i s)) (place i)
  unfolding changed
  changed-at zero i l apart = absurd (omega arith)
  changed-at (suc n) i l apart =
      ⊎_elim (λ e. rw e)
      (λ k.
      (each.at n (changed change n s)).others (place i) (apart n (omega arith) (λ e. omega (arith, e, k)))
      ∙ changed-at n i k (λ j m. apart j (omega arith)))
      (eq-or-lt_of_le (omega arith))

-- one place more
pub changed-again : (change : ℕ → State → State) (i : ℕ) (s now : State) → now ≡ changed change i s → change i now ≡ changed change (i + 1) s
unfolding changed
changed-again change i s now e = rw (add-one, e)

pub changed-none : (change : ℕ → State → State) (s : State) → s ≡ changed change 0 s
unfolding changed
changed-none change s = refl

-- N and the step count set: no place is changed
pub head-kept : (s : State) (k v i : ℕ) → k < 2 → place_of (set s k v) i ≡ place_of s i
head-kept s k v i l = number-apart s k v i (λ m few e. omega (arith, e, l))

-- ---- a place after a start or a step

pub place-changes : (kind : Option Kind) (f : Figures) (r : Rains) (i : ℕ) (s : State) → ChangesAt i s (put_place kind f r i s)
unfolding put_place
place-changes kind f r i s =
    let c = figures-change s i f in
    kind-cases (ChangesAt i s) kind (λ _. changes-then c (rains-change _ i r)) (λ _. c) (λ _. c) (λ _ _ _. c)

module _ (kind : Option Kind) (f : Figures) (r : Rains) (i : ℕ) (s : State) (room : place_start i + 6 < length s) where
  abbrev moved : State
  moved = put_figures s i f

  moved-room : place_start i + 6 < length moved
  moved-room = omega (arith, room, (figures-change s i f).length)

  pub place-figures : figures_of (put_place kind f r i s) i ≡ f
  unfolding put_place
  place-figures =
      let p = figures-put s i room f in
      kind-cases (λ (x : State). figures_of x i ≡ f) kind (λ _. rains-put-figures moved i moved-room r ∙ p) (λ _. p) (λ _. p)
      (λ _ _ _. p)

  pub place-rains : kind ≡ basin → rains_of (put_place kind f r i s) i ≡ r
  unfolding put_place
  place-rains k = ap (λ (x : State). rains_of x i) (by-basin kind _ _ _ _ k) ∙ rains-put moved i moved-room r

-- change i sets place i to figures and, where it is a basin's, rains
pub record PutsAt (place : ℕ → ℕ) (kind : ℕ → Option Kind) (change : ℕ → State → State) (f : ℕ → Figures) (r : ℕ → Rains) : Type 0 where
  pub at : (i : ℕ) (s : State) → change i s ≡ put_place (kind i) (f i) (r i) (place i) s

pub puts-each :
    {place : ℕ → ℕ} {kind : ℕ → Option Kind} {change : ℕ → State → State} {f : ℕ → Figures} {r : ℕ → Rains} → PutsAt place kind change f r → ChangesEach place change
puts-each {place} puts = record { at = λ i s. subst (ChangesAt (place i) s) (sym (puts.at i s)) (place-changes _ _ _ (place i) s) }

-- all places, cell by cell
abbrev pub PutsPlaces : TableValues → (ℕ → State → State) → (ℕ → Figures) → (ℕ → Rains) → Type 0
PutsPlaces t = PutsAt (cell_place t) (λ c. ((cells t).element c).kind)

module _
    (t : TableValues) (change : ℕ → State → State) (f : ℕ → Figures) (r : ℕ → Rains) (puts : PutsPlaces t change f r) where
  module _
      (s : State) (full : length s ≡ state_numbers) (few : (cells t).elements ≤ most_places) (i : ℕ) (l : i < (cells t).elements) where
    abbrev here : ℕ
    here = cell_place t i

    here-most : here < (cells t).elements
    unfolding cells
    here-most = place-in-use t i l

    before-room : place_start here + 6 < length (changed change i s)
    before-room = omega (arith, changed-length _ change (puts-each puts) s i, full, here-most, few)

    put-place :
        place_of (changed change (cells t).elements s) here ≡ place_of (put_place ((cells t).element i).kind (f i) (r i) here (changed change i s)) here
    unfolding cells
    put-place =
        changed-at (cell_place t) change (puts-each puts) s (cells t).elements i l (λ j m n. places-apart t i j l m n)
        ∙ ap (λ (x : State). place_of x here) (puts.at i (changed change i s))

    pub put-place-figures : (place_of (changed change (cells t).elements s) here).figures ≡ f i
    unfolding place_of
    put-place-figures = ap (λ (p : ElementState). p.figures) put-place ∙ place-figures _ _ _ here _ before-room

    pub put-place-rains : ((cells t).element i).kind ≡ basin → (place_of (changed change (cells t).elements s) here).rains ≡ r i
    unfolding place_of
    put-place-rains k = ap (λ (p : ElementState). p.rains) put-place ∙ place-rains _ _ _ here _ before-room k

-- ---- the start

pub first-puts :
    (t : TableValues)
    → PutsPlaces t (λ c. first_put ((cells t).element c) (cell_place t c)) (λ c. first_figures ((cells t).element c)) (λ c. no_rains)
unfolding first_put
first-puts t = record { at = λ i s. refl }

module _ (t : TableValues) (s : State) (full : length s ≡ state_numbers) (few : (cells t).elements ≤ most_places) where
  abbrev places : State
  places = changed (λ c. first_put ((cells t).element c) (cell_place t c)) (cells t).elements s

  places-full : length places ≡ state_numbers
  places-full = changed-length _ _ (puts-each (first-puts t)) s (cells t).elements ∙ full

  pub started-length : length (started t s) ≡ state_numbers
  unfolding started
  started-length = length-set (put_elements places t.elements) 1 0 ∙ (length-set places 0 t.elements ∙ places-full)

  pub started-elements : elements_of (started t s) ≡ t.elements
  unfolding started
  started-elements =
      get_or-set_other (put_elements places t.elements) 1 0 0 0 (λ e. omega (arith, e))
      ∙ get_or-set_same places 0 t.elements 0 (omega (arith, places-full))

  pub started-steps : steps_of (started t s) ≡ 0
  unfolding started
  started-steps =
      get_or-set_same (put_elements places t.elements) 1 0 0 (simp length-set (omega (arith, places-full)))

  module _ (i : ℕ) (l : i < (cells t).elements) where
    started-place : place_of (started t s) (cell_place t i) ≡ place_of places (cell_place t i)
    unfolding started
    started-place =
        head-kept (put_elements places t.elements) 1 0 (cell_place t i) (omega arith)
        ∙ head-kept places 0 t.elements (cell_place t i) (omega arith)

    pub started-figures : cell_figures t (started t s) i ≡ first_figures ((cells t).element i)
    unfolding place_of
    started-figures =
        ap (λ (p : ElementState). p.figures) started-place ∙ put-place-figures t _ _ _ (first-puts t) s full few i l

    pub started-rains : ((cells t).element i).kind ≡ basin → cell_rains t (started t s) i ≡ no_rains
    unfolding place_of
    started-rains k = ap (λ (p : ElementState). p.rains) started-place ∙ put-place-rains t _ _ _ (first-puts t) s full few i l k

-- ---- the loops of a start: the tanks above an element's last, and one element more

pub figures-put-more :
    (f : ℕ → Figures) (x j : ℕ) (s : State) {now next : State}
    → now ≡ changed (figures_put f x) j s
    → next ≡ put_figures now (x + j) (f j)
    → next ≡ changed (figures_put f x) (j + 1) s
figures-put-more f x j s {now} h n = n ∙ changed-again (figures_put f x) j s now h

-- the place of an element's last cell gets what the element's would
last-put : (t : TableValues) (e : Element) (p : ℕ) (s : State) → first_put (last_of t e) p s ≡ first_put e p s
unfolding last_of first_put put_place first_figures tank_of draining_into by_kind
last-put t e p s = go (same_kind e.kind tanks) refl
  where
    go :
        (x : Bool)
        → same_kind e.kind tanks ≡ x
        → let c = cond x (tank_of e (inlet_of t e.down)) (draining_into e (inlet_of t e.down)) in
        put_place c.kind (first_figures c) no_rains p s ≡ put_place e.kind (first_figures e) no_rains p s
    go true k = sym (by-tanks e.kind _ _ _ _ (same-true _ _ k))
    go false k = refl

module _ (table : List ℕ) (s : State) where
  abbrev at_table : TableValues
  at_table = table_in table

  abbrev pub first_change : ℕ → State → State
  first_change c = first_put ((cells at_table).element c) (cell_place at_table c)

  same-changed : (a b : ℕ) → a ≡ b → changed first_change a s ≡ changed first_change b s
  same-changed a b q = ap (λ (c : ℕ). changed first_change c s) q

  module _ (i : ℕ) (l : i < (table_in table).elements) (e : Element) (is : e ≡ element_at table i) where
    element-is : at_table.element i ≡ e
    element-is = element-read table i l ∙ sym is

    -- a tank above the last
    tank-put :
        (j : ℕ) (now : State)
        → j < extra_tanks e
        → first_change (first_cell at_table i + j) now ≡ put_figures now (at_table.elements + extra_before at_table i + j) (first_figures e)
    unfolding first_put put_place first_figures tank_of by_kind
    tank-put j now few =
        let c = first_cell at_table i + j in
        let extra : extra_tanks (at_table.element i) ≡ extra_tanks e = ap extra_tanks element-is in
        let last = last-is at_table i in
        let there : CellIn at_table i c = record { used = l; from = omega arith; to = omega (arith, few, extra, last) } in
        let inner : c < last_cell at_table i = omega (arith, few, extra, last) in
        let cell : (cells at_table).element c ≡ tank_of e (c + 2) =
        cell-used at_table c (omega (arith, inner, last-most at_table i l)) ∙ (inner-cell at_table there inner ∙ ap (λ (x : Element). tank_of x (c + 2)) element-is)
        in
        let place : cell_place at_table c ≡ at_table.elements + extra_before at_table i + j =
        inner-place at_table there (λ q. omega (arith, q, inner)) ∙ omega arith in
        rw (cell, place)

    -- all of them
    pub tanks-put :
        (k : ℕ) {now next : State}
        → k ≤ extra_tanks e
        → now ≡ changed first_change (first_cell at_table i) s
        → next ≡ changed (figures_put (λ _. first_figures e) (at_table.elements + extra_before at_table i)) k now
        → next ≡ changed first_change (first_cell at_table i + k) s
    unfolding changed
    tanks-put zero few h n = n ∙ (h ∙ same-changed (first_cell at_table i) (first_cell at_table i + 0) (omega arith))
    tanks-put (suc k) {now} {next} few h n =
        let c = first_cell at_table i + k in
        n
        ∙ (sym (tank-put k _ (omega arith))
        ∙ (ap (first_change c) (tanks-put k (omega arith) h refl)
        ∙ same-changed (suc c) (first_cell at_table i + suc k) (omega arith)))

    pub first-again :
        {n x k : ℕ} {f : Figures} {now middle next : State}
        → n ≡ at_table.elements
        → x ≡ n + extra_before at_table i
        → k ≡ extra_tanks (element_at table i)
        → f ≡ first_figures e
        → now ≡ changed first_change (first_cell at_table i) s
        → middle ≡ changed (figures_put (λ _. f) x) k now
        → next ≡ first_put e i middle
        → next ≡ changed first_change (first_cell at_table (i + 1)) s
    first-again {x = x} {k = k} {f = f} {now = now} {middle = middle} en ex ek ef h m n =
        let last = last-is at_table i in
        let extra : extra_tanks (at_table.element i) ≡ extra_tanks e = ap extra_tanks element-is in
        let c = last_cell at_table i in
        let before : middle ≡ changed first_change c s =
        tanks-put (extra_tanks e) (omega arith) h
        (m ∙ (ap (λ (y : ℕ). changed (figures_put (λ _. f) y) k now) (ex ∙ omega (arith, en))
        ∙ (ap (λ (g : Figures). changed (figures_put (λ _. g) (at_table.elements + extra_before at_table i)) k now) ef
        ∙ ap (λ (j : ℕ). changed (figures_put (λ _. first_figures e) (at_table.elements + extra_before at_table i)) j now) (ek ∙ ap extra_tanks (sym is))))) ∙ same-changed (first_cell at_table i + extra_tanks e) c (omega (arith, last, extra)) in
        let put : first_put e i middle ≡ first_change c middle =
        sym (last-put at_table e i middle)
        ∙ (ap (λ (x : Element). first_put (last_of at_table x) i middle) (sym element-is)
        ∙ (ap (λ (x : Element). first_put x i middle) (sym (cell-used at_table c (last-most at_table i l) ∙ last-cell at_table i l))
        ∙ ap (λ (p : ℕ). first_put ((cells at_table).element c) p middle) (sym (last-place at_table i l))))
        in
        n ∙ (put ∙ (changed-again first_change c s middle before ∙ same-changed (c + 1) (first_cell at_table (i + 1)) (omega (arith, first_next at_table i))))

  pub first-none : s ≡ changed first_change (first_cell (table_in table) 0) s
  unfolding changed extra_before
  first-none = refl

  pub started-done :
      {n i : ℕ} (now : State)
      → n ≡ (table_in table).elements
      → i ≡ n
      → now ≡ changed first_change (first_cell (table_in table) i) s
      → set (set now 0 n) 1 0 ≡ started (table_in table) s
  unfolding started cells
  started-done now e k h = rw (h, k, e)

-- ---- rule 8

module _ (table : List ℕ) (s : State) where
  pub tanks-tested :
      {n x : ℕ} {fit : Bool}
      → n ≡ (table_in table).elements
      → x ≡ extra_count (table_in table)
      → fit ≡ all_below (λ k. figures_fit (figures_of s (n + k))) x
      → fit ≡ tanks_fit (table_in table) s
  unfolding tanks_fit
  tanks-tested {x = x} e f h =
      h
      ∙ (ap (λ (n : ℕ). all_below (λ k. figures_fit (figures_of s (n + k))) x) e
      ∙ ap (λ (y : ℕ). all_below (λ k. figures_fit (figures_of s ((table_in table).elements + k))) y) f)

-- both parts
module _ (t : TableValues) (s : State) where
  pub elements-refused : elements_fit t s ≡ false → state_fits t s ≡ false
  unfolding state_fits
  elements-refused e = rw e

  pub tanks-refused : tanks_fit t s ≡ false → state_fits t s ≡ false
  unfolding state_fits
  tanks-refused e = simp (e, and-false)

  pub both-accepted : elements_fit t s ≡ true → tanks_fit t s ≡ true → state_fits t s ≡ true
  unfolding state_fits
  both-accepted e f = rw (e, f)
