-- A forecast by the river's cells: what its working space holds after i elements, from the first element to the last. Only the figures of last
-- cells are kept; the rows of other tanks serve the next element of tanks again.
use Prim.{Unit}
use Rattle.std.specs.Prelude.{Result, Ok, Err, None}
use Prim.Native.Nat.{ℕ, suc, ◌+◌, ◌-◌, ◌*◌, ◌≤◌, ◌<◌}
use mathlib.Core.List.{List}
use mathlib.Core.Logic.{⊎_elim}
use mathlib.Core.Path.{◌≡◌, refl, sym, ap, subst, fun_ext, ◌∙◌}
use native.Mathlib.Nat.{eq-or-lt_of_le}
use native.Mathlib.Omega.{arith}
use Rattle.sizes.specs.Sizes.{most_places}
use Rattle.refusal.specs.declared.Refusal.{Refusal}
use Rattle.units.specs.Units.{thousandths}
use Rattle.units.proofs.UnderLaws.{Under}
use Rattle.method.specs.declared.Figures.{Figures}
use Rattle.method.specs.Inflow.{no_inflow}
use Rattle.elements.specs.Kinds.{by_kind, extra_tanks}
use Rattle.table.specs.Tables.{TableValues}
use Rattle.table.specs.KindCounts.{extra_before, extra_count}
use Rattle.walk.specs.Space.{Later}
use Rattle.cells.specs.Cells.{first_cell, last_cell, element_of, inlet_of, tank_of, cells}
use Rattle.cells.proofs.CellLaws.{CellIn, element-of, last-is, last-in, last-most, inner-cell, inner-place, cell-used, inlet-later}
use Rattle.state.specs.States.{State, figures_of}
use Rattle.element_step.specs.ElementStep.{own_of}
use Rattle.element_step.specs.Bounds.{tank_element}
use Rattle.element_step.specs.Answers.{own_at}
use Rattle.network.specs.Step.{weight_of, no_observation}
use Rattle.network.specs.Forecast.{forecast_own, lead_figures, lead_numbers}
use Rattle.network.proofs.NumbersLaws.{lead_own, figures-again, lead-part, lead-whole}
use Rattle.answer_space.specs.Places.{figures_at, most_sum_before, FiguresBelow}
use Rattle.one_lead.specs.declared.ElementInput.{ElementInput}
use Rattle.one_lead.specs.Worked.{tank_input}
use Rattle.lead_walk.specs.Network.{opening}
use Rattle.lead_walk.specs.Leads.{numbers_after}
use Rattle.lead_walk.specs.Worked.{drained_at, LeadsDone}
use Rattle.lead_walk.proofs.NetworkLaws.{InputOf, walked-begin, walked_at, walked-small, element-under}
use Rattle.tank_walk.specs.declared.TankPlaces.{TankPlaces}
use Rattle.tank_walk.specs.Rows.{resting, IsLast, own_row}
use Rattle.tank_walk.specs.Tanks.{tank_place, TanksWorked, TanksOpened}
use Rattle.tank_walk.proofs.RowLaws.{
  tank_row,
  tank-place,
  tank-last,
  tank-inner,
  tank-in,
  kept-before,
  opened-here,
  opened-other,
  rest-down,
}
use Rattle.tank_walk.proofs.TurnLaws.{
  WalkedBy,
  Rests,
  KeptRows,
  tank_inlet,
  open-one,
  open-tanks,
  last-ready,
  last_turn,
  tanks-walked,
  tanks-refused,
}

-- ---- the code's tank

-- an inner tank, and the last, are reaches with the element's noise
module _ (t : TableValues) (i j : ℕ) (used : i < t.elements) (less : j < extra_tanks (t.element i)) where
  abbrev c : ℕ
  c = first_cell t i + j

  inside : CellIn t i c
  inside = tank-in t i j used (omega (arith, less))

  inner : c < last_cell t i
  inner = omega (arith, less, last-is t i)

  is-tank : (cells t).element c ≡ tank_of (t.element i) (c + 2)
  is-tank = cell-used t c (omega (arith, inner, last-most t i used)) ∙ inner-cell t inside inner

  pub tank-kind : (noise : ℕ) → (tank_element noise).kind ≡ ((cells t).element c).kind
  unfolding tank_of
  tank-kind noise = rw is-tank

  pub tank-noise :
      (noise : ℕ) → noise ≡ (t.element i).system_noise.0 → thousandths noise ≡ ((cells t).element c).system_noise
  unfolding tank_of
  tank-noise noise e = ap thousandths e ∙ rw is-tank

  module _ (s : State) where
    own_same : (noise l : ℕ) → own_at (tank_element noise) 0 (1 + l) ≡ lead_own t s l c
    unfolding own_at own_of forecast_own by_kind tank_of
    own_same noise l = rw is-tank

    pub tank-input :
        (noise H leads w : ℕ)
        → noise ≡ (t.element i).system_noise.0
        → H ≡ weight_of (cells t) c
        → InputOf (cells t) (lead_own t s) no_observation (lead_figures t s) w 1 (IsLast t) (own_row t) (tank_input noise H None) c leads
    unfolding no_observation
    tank-input noise H leads w e is =
        record {
          kind = tank-kind noise;
          noise = tank-noise noise e;
          weight = is;
          observation = refl;
          own_part = λ l m. own_same noise l;
        }

    -- its figures in the state
    pub tank-first : figures_of s (t.elements + extra_before t i + j) ≡ lead_figures t s 0 c
    unfolding lead_figures
    tank-first =
        let e : t.elements + extra_before t i + j ≡ t.elements + (c - i) = omega arith in
        ap (figures_of s) (e ∙ sym (inner-place t inside (λ q. omega (arith, q, inner))))

-- ---- the rows of last cells

module _ (t : TableValues) where
  -- the row of a cell that is last: its element's
  last_row : (i k n : ℕ) → i < t.elements → n ≤ extra_tanks (t.element i) → k < first_cell t i + n → IsLast t k → own_row t k ≤ i
  last_row i k n used l less e = omega (arith, kept-before t (tank-in t i n used l) less e)

  pub last-rows :
      (own : ℕ → ℕ → Figures) (old : ℕ → ℕ → Figures) (w from leads : ℕ) (wide : from + leads ≤ w) (i : ℕ)
      → i < t.elements
      → KeptRows t own no_observation old w from leads wide (IsLast t) (own_row t) i (t.elements + 1)
  last-rows own old w from leads wide i used =
      record {
        beyond = omega arith;
        apart =
            λ j k l less e q.
            ⊎_elim
            (λ (z : j ≡ extra). omega (arith, q, last_row i k j used l less e, ap (tank_row scratch (i + 1) extra) z, tank-last scratch (i + 1) extra))
            (λ y. omega (arith, q, used, last_row i k j used l less e, tank-inner scratch (i + 1) extra j y)) (eq-or-lt_of_le l);
        place =
            λ j l e.
            let of : element_of t (first_cell t i + j) ≡ i = element-of t (tank-in t i j used l) in
            let z : j ≡ extra = omega (arith, e ∙ ap (last_cell t) of, last-is t i) in
            ap (λ (k : ℕ). k + 1) of ∙ sym (ap (tank_row scratch (i + 1) extra) z ∙ tank-last scratch (i + 1) extra);
        below =
            λ k d less e to there q.
            ⊎_elim (λ z. omega (arith, z, q)) (λ m. omega (arith, m, q, last_row i k extra used (omega arith) (omega (arith, less, last-is t i)) e)) to;
      }
    where
      extra : ℕ
      extra = extra_tanks (t.element i)

      scratch : ℕ
      scratch = t.elements + 1

-- ---- the walk

-- tanks whose places are given by another function that says the same
pub same-places :
    {c : ElementInput} {first : ℕ → Figures} {place other : ℕ → ℕ} {leads extra j : ℕ} {r : Result Unit Refusal} {before after : List Figures}
    → ((k : ℕ) → place k ≡ other k)
    → TanksWorked c first place leads extra j r before after
    → TanksWorked c first other leads extra j r before after
same-places {c} {first} {leads = leads} {extra = extra} {j = j} {r = r} {before = before} {after = after} e h =
    subst (λ (f : ℕ → ℕ). TanksWorked c first f leads extra j r before after) (fun_ext e) h

module _ (t : TableValues) (s : State) (leads : ℕ) where
  abbrev w : ℕ
  w = leads + 1

  pub wide : 1 + leads ≤ w
  wide = omega arith

  -- the first i elements are worked out at all leads
  abbrev pub Forecast : ℕ → List Figures → Type 0
  Forecast i space = Rests t (lead_own t s) no_observation (lead_figures t s) w 1 leads wide (IsLast t) (own_row t) (first_cell t i) space

  -- and the tanks of element i above its last
  abbrev pub Ready : ℕ → List Figures → Type 0
  Ready i space =
      WalkedBy t (lead_own t s) no_observation (lead_figures t s) w 1 leads wide (IsLast t) (own_row t) (opening (resting t) (last_cell t i + 1) (i + 1))
      (last_cell t i) space

  pub forecast-begin : (space : List Figures) → ((p : ℕ) → figures_at space p ≡ no_inflow) → Forecast 0 space
  unfolding extra_before
  forecast-begin space none =
      walked-begin (cells t) (lead_own t s) no_observation (lead_figures t s) w 1 (IsLast t) (own_row t) (resting t) leads space none

  module _ (i : ℕ) (used : i < t.elements) (to : Later i (t.element i).down) (there : (t.element i).down ≤ t.elements) where
    abbrev extra : ℕ
    extra = extra_tanks (t.element i)

    rows : KeptRows t (lead_own t s) no_observation (lead_figures t s) w 1 leads wide (IsLast t) (own_row t) i (t.elements + 1)
    rows = last-rows t (lead_own t s) (lead_figures t s) w 1 leads wide i used

    -- an element that is one cell is ready as it is
    pub ready-one : {space : List Figures} → extra ≡ 0 → Forecast i space → Ready i space
    ready-one {space} none h =
        last-ready t _ _ _ w 1 leads wide (IsLast t) (own_row t) i used _ rows to there
        (subst
        (λ (n : ℕ). WalkedBy t (lead_own t s) no_observation (lead_figures t s) w 1 leads wide (IsLast t) (own_row t) (tank_inlet t (lead_own t s) no_observation (lead_figures t s) w 1 leads wide (IsLast t) (own_row t) i used _ rows n) (first_cell t i + n) space)
        (sym none) (open-one t _ _ _ w 1 leads wide (IsLast t) (own_row t) i used _ rows none h))

    module _
        (noise H : ℕ) (noisy : noise ≡ (t.element i).system_noise.0)
        (weighed : (j : ℕ) → j < extra → H ≡ weight_of (cells t) (first_cell t i + j)) where
      -- the places that the code has for its tanks
      abbrev pub forecast_places : TankPlaces
      forecast_places = record { own = (i + 1) * w + 1; first = (t.elements + 1) * w + 1; width = w; leads = leads }

      place_is : (j : ℕ) → tank_place forecast_places extra j ≡ tank_row (t.elements + 1) (i + 1) extra j * w + 1
      place_is j = tank-place (t.elements + 1) (i + 1) extra w 1 leads j

      module _
          {r : Result Unit Refusal} {before after : List Figures} (some : 0 < extra) (h : Forecast i before)
          (g : TanksOpened r noise H extra (t.elements + extra_before t i) forecast_places s before after) where
        -- an element of tanks once they are worked out
        pub ready-tanks : r ≡ (Ok tt) → Ready i after
        ready-tanks a =
            last-ready t _ _ _ w 1 leads wide (IsLast t) (own_row t) i used _ rows to there
            (tanks-walked t _ _ _ w 1 leads wide (IsLast t) (own_row t) i used _ rows (figures-again t s) _
            (λ j l. tank-input t i j used l s noise H leads w noisy (weighed j l)) _ (λ j l. tank-first t i j used l s) (same-places place_is g.worked) a
            (open-tanks t _ _ _ w 1 leads wide (IsLast t) (own_row t) i used _ rows some h g.row))

        -- 16 at one of them is 16 of the forecast
        pub tanks-pass : {k : Refusal} → r ≡ Err k → Under (lead_numbers t s leads) → ⊥
        tanks-pass a u =
            tanks-refused t _ _ _ w 1 leads wide (IsLast t) (own_row t) i used _ rows (figures-again t s) _
            (λ j l. tank-input t i j used l s noise H leads w noisy (weighed j l)) _ (λ j l. tank-first t i j used l s) (same-places place_is g.worked) a
            (open-tanks t _ _ _ w 1 leads wide (IsLast t) (own_row t) i used _ rows some h g.row) (λ l n. lead-part t s l leads n u)

    -- what drains below is small before the turn of the last cell
    pub ready-small :
        {space : List Figures}
        → t.elements + extra_count t ≤ most_places
        → Ready i space
        → (l : ℕ)
        → l < leads
        → FiguresBelow (figures_at space ((t.element i).down * w + 1 + l)) most_sum_before
    ready-small {space} few h =
        walked-small (cells t) (lead_own t s) no_observation (lead_figures t s) w 1 (IsLast t) (own_row t) _ leads (last_cell t i) space h
        (omega (arith, few, last-most t i used)) (inlet_of t (t.element i).down) (t.element i).down (inlet-later t i (t.element i).down to)
        (opened-other (resting t) (last_cell t i + 1) (i + 1) (inlet_of t (t.element i).down)
        (λ e. ⊎_elim (λ z. omega (arith, z, e)) (λ l. omega (arith, l, e)) (inlet-later t i (t.element i).down to))
        ∙ rest-down t (t.element i).down there)

    -- the turn of the last cell
    module _
        (c : ElementInput) (of : InputOf (cells t) (lead_own t s) no_observation (lead_figures t s) w 1 (IsLast t) (own_row t) c (last_cell t i) leads)
        (first : Figures) (is : first ≡ lead_figures t s 0 (last_cell t i)) {before : List Figures} (h : Ready i before) where
      -- where no number of the forecast passes, none of this cell does
      pub last_under : Under (lead_numbers t s leads) → Under (numbers_after c first (drained_at before ((i + 1) * w + 1)) leads)
      unfolding cells
      last_under u =
          element-under (cells t) (lead_own t s) no_observation (lead_figures t s) w 1 (IsLast t) (own_row t) c (last_cell t i) leads of (figures-again t s)
          first is before _ h (i + 1) (opened-here (resting t) (last_cell t i + 1) (i + 1)) (cells t).elements (last-most t i used)
          (λ l n. lead-part t s l leads n u)

      -- one element more
      pub forecast-again :
          {after : List Figures} → LeadsDone c first ((i + 1) * w + 1) ((t.element i).down * w + 1) leads before after → Forecast (i + 1) after
      forecast-again g =
          last_turn t _ _ _ w 1 leads wide (IsLast t) (own_row t) i used _ rows to there (figures-again t s) c of first is h g

  -- all elements: each has its figures in its row, whose are those of its last cell
  module _ (space : List Figures) (h : Forecast t.elements space) where
    pub forecast-at :
        (i l : ℕ) → i < t.elements → l < leads → figures_at space ((i + 1) * w + 1 + l) ≡ lead_figures t s (suc l) (last_cell t i)
    forecast-at i l used m =
        let e : element_of t (last_cell t i) ≡ i = element-of t (last-in t used) in
        subst (λ (n : ℕ). figures_at space ((n + 1) * w + 1 + l) ≡ lead_figures t s (suc l) (last_cell t i)) e
        (walked_at (cells t) (lead_own t s) no_observation (lead_figures t s) w 1 (IsLast t) (own_row t) (resting t) leads _ space h l (last_cell t i) m
        (last-most t i used) (ap (last_cell t) (sym e))
        ∙ sym (figures-again t s l (last_cell t i)))

    -- and no number of the forecast passes
    pub forecast-whole : Under (lead_numbers t s leads)
    unfolding cells
    forecast-whole = lead-whole t s leads (λ l m. h.under l m)
