-- A step by the river's cells: rows of one place, and every cell has one of its own, so that its figures are kept.
use Rattle.rating.specs.declared.RatedReading.{RatedReading}
use Prim.{Unit}
use Rattle.std.specs.Prelude.{Result, Ok, Err, Option, None}
use Prim.Native.Nat.{ℕ, zero, suc, ◌+◌, ◌-◌, ◌*◌, ◌≤◌, ◌<◌}
use mathlib.Core.Bool.{Bool, true, false, cond}
use mathlib.Core.List.{List}
use mathlib.Core.Logic.{inl, inr, ◌≢◌, ⊎_elim}
use mathlib.Core.Path.{◌≡◌, sym, ap, subst, fun_ext, ◌∙◌}
use native.Mathlib.Nat.{eq-or-lt_of_le}
use native.Mathlib.Omega.{arith}
use lib.Dec.{eqb}
use lib.ListN.{length}
use Rattle.sizes.specs.Sizes.{most_places}
use Rattle.refusal.specs.declared.Refusal.{Refusal}
use Rattle.units.specs.Units.{S}
use Rattle.units.proofs.UnderLaws.{Under}
use Rattle.method.specs.declared.Figures.{Figures}
use Rattle.method.specs.Figures.{FiguresFit}
use Rattle.elements.specs.Kinds.{tanks, extra_tanks}
use Rattle.table.specs.Tables.{TableValues}
use Rattle.table.specs.Bounds.{AcceptedBounds}
use Rattle.table.specs.KindCounts.{extra_before, extra_count}
use Rattle.table.proofs.CountLaws.{extra-rise}
use Rattle.cells.specs.Cells.{first_cell, last_cell, inlet_of, cell_place, cells}
use Rattle.cells.proofs.CellLaws.{last-is, last-most, last-in-use, last-place, inner-place, places-apart, last-rises, inlet-later}
use Rattle.state.specs.States.{State, figures_of}
use Rattle.state.specs.Bounds.{StateBounds}
use Rattle.walk.specs.Space.{Later}
use Rattle.answer_space.specs.Places.{figures_at, most_sum_before, FiguresBelow}
use Rattle.one_lead.specs.declared.ElementInput.{ElementInput}
use Rattle.one_lead.specs.Worked.{tank_input}
use Rattle.lead_walk.specs.Leads.{numbers_after}
use Rattle.lead_walk.specs.Network.{Inlet, opening, Walked}
use Rattle.lead_walk.specs.Worked.{Apart, drained_at, LeadsDone}
use Rattle.lead_walk.proofs.NetworkLaws.{new_at, numbers_at, InputOf, walked-small, element-under}
use Rattle.tank_walk.specs.declared.TankPlaces.{TankPlaces}
use Rattle.tank_walk.specs.Rows.{resting, EveryCell, cell_row}
use Rattle.tank_walk.specs.Tanks.{tank_place, RowMoved, TanksWorked, TanksThere, TanksReady, TanksOpened}
use Rattle.tank_walk.proofs.RowLaws.{opened-here, opened-other, tank_row, tank-last, tank-inner, tank-in, rest-down}
use Rattle.tank_walk.proofs.TankLaws.{place-last, place-inner}
use Rattle.tank_walk.proofs.TurnLaws.{KeptRows, tank_inlet, open-one, open-tanks, last-ready, last_turn, tanks-walked, tanks-refused}
use Rattle.elements.proofs.KindLaws.{eq-same}

-- ---- where tanks stand

module _ (t : TableValues) where
  -- the row of the first tank of element i
  abbrev pub tank_start : ℕ → ℕ
  tank_start i = t.elements + extra_before t i + 1

  abbrev pub step_places : ℕ → TankPlaces
  step_places i = record { own = i + 1; first = tank_start i; width = 1; leads = 1 }

  step-place : (i extra j : ℕ) → tank_place (step_places i) extra j ≡ tank_row (tank_start i) (i + 1) extra j * 1 + 0
  unfolding tank_place tank_row
  step-place i extra j = go (eqb j extra)
    where
      go : (b : Bool) → cond b (i + 1) (tank_start i + j * 1) ≡ cond b (i + 1) (tank_start i + j) * 1 + 0
      go true = omega arith
      go false = omega arith

  step-places : (i extra : ℕ) → tank_place (step_places i) extra ≡ (λ j. tank_row (tank_start i) (i + 1) extra j * 1 + 0)
  step-places i extra = fun_ext (step-place i extra)

  module _ (i : ℕ) (used : i < t.elements) where
    abbrev extra : ℕ
    extra = extra_tanks (t.element i)

    -- where a tank above the last stands in the state
    pub tank-cell : (j : ℕ) → j < extra → cell_place t (first_cell t i + j) ≡ t.elements + extra_before t i + j
    tank-cell j l =
        inner-place t (tank-in t i j used (omega (arith, l))) (λ q. omega (arith, q, l, last-is t i)) ∙ omega arith

    row_is : (j : ℕ) → j ≤ extra → cell_row t (first_cell t i + j) ≡ tank_row (tank_start i) (i + 1) extra j
    row_is j l = ⊎_elim last (λ m. inner m) (eq-or-lt_of_le l)
      where
        last : j ≡ extra → cell_row t (first_cell t i + j) ≡ tank_row (tank_start i) (i + 1) extra j
        last e =
            let c : first_cell t i + j ≡ last_cell t i = omega (arith, e, last-is t i) in
            ap (λ (k : ℕ). cell_place t k + 1) c
            ∙ (ap (λ (k : ℕ). k + 1) (last-place t i used) ∙ sym (ap (tank_row (tank_start i) (i + 1) extra) e ∙ tank-last (tank_start i) (i + 1) extra))

        inner : j < extra → cell_row t (first_cell t i + j) ≡ tank_row (tank_start i) (i + 1) extra j
        inner m = omega (arith, tank-cell j m, tank-inner (tank_start i) (i + 1) extra j m)

    -- two cells never have one row
    rows_apart : (k c : ℕ) → k < c → c ≤ last_cell t i → cell_row t k ≢ cell_row t c
    rows_apart k c l m q =
        places-apart t k c (omega (arith, l, m, last-most t i used)) (omega (arith, m, last-most t i used)) (λ e. omega (arith, e, l)) (omega (arith, q))

    below_apart : (k d : ℕ) → k < last_cell t i → Later i d → d ≤ t.elements → cell_row t k ≢ d
    below_apart k zero l later m q = omega (arith, q)
    below_apart k (suc n) l later m q =
        let less : i < n = ⊎_elim (λ z. absurd (omega (arith, z))) (λ a. omega (arith, a)) later in
        places-apart t k (last_cell t n) (omega (arith, l, last-most t i used)) (last-most t n m)
        (λ e. omega (arith, e, l, last-rises t i n less)) (omega (arith, q, last-place t n m))

    all-extra : extra_before t i + extra ≤ extra_count t
    unfolding extra_before
    all-extra = extra-rise t (suc i) t.elements used

    -- ---- what the code of the tanks relies on

    module _ (b : AcceptedBounds t) (kind : (t.element i).kind ≡ tanks) where
      pub extra-is : extra ≡ (t.element i).runoff - 1
      unfolding extra_tanks
      extra-is = rw (eq-same (t.element i).kind tanks kind)

      pub extra-some : 0 < extra
      extra-some = omega (arith, extra-is, ((b.element i used).tanks kind).0)

      extra-few : extra ≤ 7
      extra-few = omega (arith, extra-is, ((b.element i used).tanks kind).1)

      step-there : (space : List Figures) → t.elements + extra_count t + 1 ≤ length space → TanksThere (step_places i) extra space
      step-there space room =
          record {
            short = omega arith;
            some = extra-some;
            extra_few = extra-few;
            few = λ j l. omega (arith, l, b.places_most, all-extra);
            room = λ j l. ⊎_elim (λ e. rw e at_last) (λ m. at_inner j m) (eq-or-lt_of_le l);
            apart = λ j l. ⊎_elim (λ e. last_apart j l e) (λ m. next-apart j l m) (eq-or-lt_of_le (omega (arith, l)));
            moved = inl (omega (arith, used));
          }
        where
          at_last : tank_place (step_places i) extra extra + 1 ≤ length space
          at_last = omega (arith, place-last (step_places i) extra, room, used)

          at_inner : (j : ℕ) → j < extra → tank_place (step_places i) extra j + 1 ≤ length space
          at_inner j l = omega (arith, place-inner (step_places i) extra j l, room, l, all-extra)

          last_apart : (j : ℕ) → j < extra → j + 1 ≡ extra → Apart (tank_place (step_places i) extra j) (tank_place (step_places i) extra (j + 1)) 1
          last_apart j l e =
              let p : tank_place (step_places i) extra (j + 1) ≡ i + 1 = ap (tank_place (step_places i) extra) e ∙ place-last (step_places i) extra in
              inr (omega (arith, p, place-inner (step_places i) extra j l, used))

          next-apart : (j : ℕ) → j < extra → j + 1 < extra → Apart (tank_place (step_places i) extra j) (tank_place (step_places i) extra (j + 1)) 1
          next-apart j l m = inl (omega (arith, place-inner (step_places i) extra j l, place-inner (step_places i) extra (j + 1) m))

      pub step-tanks-ready :
          {noise weight : ℕ} {s : State} {space : List Figures}
          → StateBounds t s
          → t.elements + extra_count t + 1 ≤ length space
          → noise ≡ (t.element i).system_noise.0
          → weight ≤ S
          → TanksReady noise weight extra (t.elements + extra_before t i) 0 (step_places i) s space
      unfolding cells
      step-tanks-ready {s = s} {space} state room is weighed =
          record {
            there = step-there space room;
            places = omega (arith, b.places_most, all-extra);
            tank = omega arith;
            system_noise = omega (arith, is, (b.element i used).system_noise);
            weighed = weighed;
            fits =
                λ j l.
                subst (λ (p : ℕ). FiguresFit (figures_of s p)) (tank-cell j l)
                (state.figures (first_cell t i + j) (omega (arith, l, last-is t i, last-most t i used)));
          }

-- ---- the walk

pub wide : 0 + 1 ≤ 1
wide = omega arith

one_place : (p : ℕ) → p * 1 + 0 ≡ p
one_place p = omega arith

first-place : (p : ℕ) → p * 1 + 0 + 0 ≡ p
first-place p = omega arith

module _ (t : TableValues) (own : ℕ → ℕ → Figures) (o : ℕ → (Option RatedReading)) (old : ℕ → ℕ → Figures) where
  -- the first cells are worked out
  abbrev pub StepWalked : (ℕ → Inlet) → ℕ → List Figures → Type 0
  StepWalked inlet c space = Walked (cells t) own o old 1 0 EveryCell (cell_row t) inlet 1 c space

  abbrev pub StepInputOf : ElementInput → ℕ → Type 0
  StepInputOf c k = InputOf (cells t) own o old 1 0 EveryCell (cell_row t) c k 1

  kept-rows : (i : ℕ) → i < t.elements → KeptRows t own o old 1 0 1 wide EveryCell (cell_row t) i (tank_start t i)
  kept-rows i used =
      record {
        beyond = omega arith;
        apart =
            λ j k l m q.
            subst (λ (r : ℕ). cell_row t k ≢ r) (row_is t i used j l) (rows_apart t i used k (first_cell t i + j) m (omega (arith, l, last-is t i)));
        place = λ j l q. row_is t i used j l;
        below = λ k d l q later m. below_apart t i used k d l later m;
      }

  module _
      (again : (l k : ℕ) → old (suc l) k ≡ new_at (cells t) own o old 1 0 EveryCell (cell_row t) l k)
      (i : ℕ) (used : i < t.elements) (to : Later i (t.element i).down) (there : (t.element i).down ≤ t.elements) where
    abbrev d : ℕ
    d = (t.element i).down

    -- the first i elements, and of element i all cells but the last
    abbrev pub ReadyAt : List Figures → Type 0
    ReadyAt = StepWalked (opening (resting t) (last_cell t i + 1) (i + 1)) (last_cell t i)

    -- an element that is one cell
    pub ready-one : {space : List Figures} → extra_tanks (t.element i) ≡ 0 → StepWalked (resting t) (first_cell t i) space → ReadyAt space
    ready-one {space} none h =
        last-ready t own o old 1 0 1 wide EveryCell (cell_row t) i used (tank_start t i) (kept-rows i used) to there
        (subst
        (λ (n : ℕ). StepWalked (tank_inlet t own o old 1 0 1 wide EveryCell (cell_row t) i used (tank_start t i) (kept-rows i used) n) (first_cell t i + n) space)
        (sym none)
        (open-one t own o old 1 0 1 wide EveryCell (cell_row t) i used (tank_start t i) (kept-rows i used) none h))

    -- an element of tanks, once those above the last are worked out
    module _
        {noise weight : ℕ} {s : State} {r : Result Unit Refusal} {before after : List Figures} (some : 0 < extra_tanks (t.element i))
        (of : (j : ℕ) → j < extra_tanks (t.element i) → StepInputOf (tank_input noise weight None) (first_cell t i + j))
        (is : (k : ℕ) → figures_of s (cell_place t k) ≡ old 0 k) (h : StepWalked (resting t) (first_cell t i) before)
        (g : TanksOpened r noise weight (extra_tanks (t.element i)) (t.elements + extra_before t i) (step_places t i) s before after) where
      figures-are : (j : ℕ) → j < extra_tanks (t.element i) → figures_of s (t.elements + extra_before t i + j) ≡ old 0 (first_cell t i + j)
      figures-are j l = ap (figures_of s) (sym (tank-cell t i used j l)) ∙ is (first_cell t i + j)

      opened : StepWalked (tank_inlet t own o old 1 0 1 wide EveryCell (cell_row t) i used (tank_start t i) (kept-rows i used) 0) (first_cell t i + 0) g.middle
      opened =
          open-tanks t own o old 1 0 1 wide EveryCell (cell_row t) i used (tank_start t i) (kept-rows i used) some h
          (subst (λ (p : ℕ). RowMoved ((i + 1) * 1 + 0) p 1 before g.middle) (sym (one_place (tank_start t i)))
          (subst (λ (p : ℕ). RowMoved p (tank_start t i) 1 before g.middle) (sym (one_place (i + 1))) g.row))

      worked :
          TanksWorked (tank_input noise weight None) (λ j. figures_of s (t.elements + extra_before t i + j))
          (λ j. tank_row (tank_start t i) (i + 1) (extra_tanks (t.element i)) j * 1 + 0) 1 (extra_tanks (t.element i)) 0 r g.middle after
      worked =
          subst
          (λ (place : ℕ → ℕ). TanksWorked (tank_input noise weight None) (λ j. figures_of s (t.elements + extra_before t i + j)) place 1 (extra_tanks (t.element i)) 0 r g.middle after)
          (step-places t i (extra_tanks (t.element i))) g.worked

      pub ready-tanks : r ≡ (Ok tt) → ReadyAt after
      ready-tanks a =
          last-ready t own o old 1 0 1 wide EveryCell (cell_row t) i used (tank_start t i) (kept-rows i used) to there
          (tanks-walked t own o old 1 0 1 wide EveryCell (cell_row t) i used (tank_start t i) (kept-rows i used) again _ of _ figures-are worked a opened)

      -- 16 at one of them is 16 of the step
      pub tanks-pass : {k : Refusal} → r ≡ Err k → Under (numbers_at (cells t) own o old 1 0 EveryCell (cell_row t) 0 (cells t).elements) → ⊥
      tanks-pass e u =
          tanks-refused t own o old 1 0 1 wide EveryCell (cell_row t) i used (tank_start t i) (kept-rows i used) again _ of _ figures-are worked e opened
          (λ l m. subst (λ (k : ℕ). Under (numbers_at (cells t) own o old 1 0 EveryCell (cell_row t) k (cells t).elements)) (omega arith) u)

    module _ {before : List Figures} (h : ReadyAt before) where
      -- the sums of the element below are small
      pub ready-small : last_cell t i < most_places → FiguresBelow (figures_at before d) most_sum_before
      ready-small few =
          subst (λ (p : ℕ). FiguresBelow (figures_at before p) most_sum_before) (first-place d)
          (walked-small (cells t) own o old 1 0 EveryCell (cell_row t) (opening (resting t) (last_cell t i + 1) (i + 1)) 1 (last_cell t i) before h few
          (inlet_of t d) d later
          (opened-other (resting t) (last_cell t i + 1) (i + 1) (inlet_of t d) (λ e. ⊎_elim (λ z. omega (arith, z, e)) (λ l. omega (arith, l, e)) later)
          ∙ rest-down t d there)
          0 (omega arith))
        where
          later : Later (last_cell t i) (inlet_of t d)
          later = inlet-later t i d to

      module _ {c : ElementInput} {first : Figures} (of : StepInputOf c (last_cell t i)) (is : first ≡ old 0 (last_cell t i)) where
        -- one element more
        pub element-turn : {after : List Figures} → LeadsDone c first (i + 1) d 1 before after → StepWalked (resting t) (first_cell t (i + 1)) after
        element-turn {after} g =
            last_turn t own o old 1 0 1 wide EveryCell (cell_row t) i used (tank_start t i) (kept-rows i used) to there again c of first is h
            (subst (λ (p : ℕ). LeadsDone c first ((i + 1) * 1 + 0) p 1 before after) (sym (one_place d))
            (subst (λ (p : ℕ). LeadsDone c first p d 1 before after) (sym (one_place (i + 1))) g))

        -- where no number of the step passes, none of its last cell does
        pub element-part :
            Under (numbers_at (cells t) own o old 1 0 EveryCell (cell_row t) 0 (cells t).elements)
            → Under (numbers_after c first (drained_at before (i + 1)) 1)
        element-part u =
            subst (λ (p : ℕ). Under (numbers_after c first (drained_at before p) 1)) (one_place (i + 1))
            (element-under (cells t) own o old 1 0 EveryCell (cell_row t) c (last_cell t i) 1 of again first is before
            (opening (resting t) (last_cell t i + 1) (i + 1)) h (i + 1) (opened-here (resting t) (last_cell t i + 1) (i + 1)) (cells t).elements
            (last-in-use t i used)
            (λ l m. subst (λ (k : ℕ). Under (numbers_at (cells t) own o old 1 0 EveryCell (cell_row t) k (cells t).elements)) (omega arith) u))
