-- What the leads of one element are worked out from.
use Rattle.std.specs.Prelude.{None, Option}
use Prim.Native.Nat.{ℕ, suc, ◌+◌, ◌≤◌, ◌<◌}
use mathlib.Core.List.{List}
use mathlib.Core.Logic.{◌≢◌}
use mathlib.Core.Path.{◌≡◌, refl, sym, ap, ◌∙◌}
use native.Mathlib.Omega.{arith}
use Rattle.units.specs.Units.{S, thousandths}
use Rattle.method.specs.declared.Figures.{Figures}
use Rattle.method.specs.Figures.{FiguresFit}
use Rattle.method.specs.Inflow.{mean_rain_inflow, forecast_inflow}
use Rattle.inflow.specs.Basin.{basin_inflow}
use Rattle.elements.specs.declared.Element.{Element}
use Rattle.elements.specs.Elements.{element_at}
use Rattle.elements.specs.Kinds.{basin, tanks, by_kind}
use Rattle.elements.proofs.KindLaws.{by-basin, by-dam, kind-both, eq-same, ne-same}
use Rattle.table.specs.Tables.{TableValues}
use Rattle.table.specs.Bounds.{AcceptedTable}
use Rattle.table.specs.InUse.{table_in}
use Rattle.table.proofs.InUseLaws.{element-read}
use Rattle.table.proofs.HeldLaws.{element-bounds}
use Rattle.cells.specs.Cells.{last_cell, last_of, tank_of, draining_into, inlet_of, cells}
use Rattle.cells.proofs.CellLaws.{last-most, last-place, last-cell, last-in-use, cell-used}
use Rattle.record.specs.Decoded.{ObservationFits}
use Rattle.state.specs.States.{State, steps_of, figures_of, rains_of}
use Rattle.state.specs.Bounds.{RainsUnder, StateBounds}
use Rattle.element_step.specs.Bounds.{ElementInRange, tank_element}
use Rattle.network.specs.Step.{no_observation}
use Rattle.network.specs.Forecast.{rain_count, rain_sum, lead_inflow, forecast_own, lead_figures}
use Rattle.network.proofs.NumbersLaws.{lead_own}
use Rattle.one_lead.specs.Leads.{own_at_lead}
use Rattle.element_step.specs.ElementStep.{released, own_of}
use Rattle.element_step.specs.Answers.{own_at}
use Rattle.one_lead.specs.Worked.{InputInRange, tank_input}
use Rattle.element_weights.specs.Weights.{element_weight}
use Rattle.tank_walk.specs.Rows.{IsLast, own_row}
use Rattle.lead_walk.proofs.NetworkLaws.{InputOf}
use Rattle.network_leads.specs.Inputs.{own_number, lead_input}
use Rattle.elements.specs.declared.Kind.{Kind}

-- ---- an element in use, and its last cell

module _ (t : TableValues) (i : ℕ) (l : i < t.elements) where
  pub cell-is : (cells t).element (last_cell t i) ≡ last_of t (t.element i)
  cell-is = cell-used t (last_cell t i) (last-most t i l) ∙ last-cell t i l

  -- one that is no tanks is its own cell, but for where it drains
  pub single-is : (t.element i).kind ≢ tanks → (cells t).element (last_cell t i) ≡ draining_into (t.element i) (inlet_of t (t.element i).down)
  unfolding last_of
  single-is n = cell-is ∙ rw (ne-same (t.element i).kind tanks n)

module _ (bytes : List ℕ) (t : AcceptedTable bytes) {i : ℕ} (l : i < (table_in bytes).elements) where
  element-in-range : (element_at bytes i).kind ≢ tanks → ElementInRange (element_at bytes i)
  element-in-range n =
      let e = element-bounds bytes t l in
      record { kind = e.single n; system_noise = omega (arith, e.system_noise); rain_noise = e.rain_noise }

  -- its figures in the state
  pub figures-fit : (s : State) → StateBounds (table_in bytes) s → FiguresFit (figures_of s i)
  figures-fit s h = rw (last-place (table_in bytes) i l) at (h.figures (last_cell (table_in bytes) i) (last-in-use (table_in bytes) i l))

  -- a basin's rains are in their range
  pub basin-rains :
      (s : State) {kind : Option Kind}
      → StateBounds (table_in bytes) s
      → kind ≡ (element_at bytes i).kind
      → kind ≡ basin
      → RainsUnder (rains_of s i)
  unfolding draining_into
  basin-rains s h is k =
      let b : ((table_in bytes).element i).kind ≡ basin = ap (λ (x : Element). x.kind) (element-read bytes i l) ∙ (sym is ∙ k) in
      rw (last-place (table_in bytes) i l) at (h.rains (last_cell (table_in bytes) i) (last-in-use (table_in bytes) i l)
      (ap (λ (x : Element). x.kind) (single-is (table_in bytes) i l (λ q. cc)) ∙ b))

  pub input-in-range :
      (weight count : ℕ) (s : State)
      → (element_at bytes i).kind ≢ tanks
      → weight ≤ S
      → StateBounds (table_in bytes) s
      → InputInRange (lead_input (element_at bytes i) weight count s i)
  unfolding lead_input own_number ObservationFits
  input-in-range weight count s n few h =
      record {
        element = element-in-range n;
        weight = few;
        first_lead = omega arith;
        release = λ k. rw (by-dam (element_at bytes i).kind _ 0 (figures_of s i).discharge.0 0 k) (figures-fit s h).discharge;
        observation = tt;
      }

-- ---- the element as the network has it

module _ (t : TableValues) (s : State) (i : ℕ) (used : i < t.elements) (n : (t.element i).kind ≢ tanks) where
  abbrev c : ℕ
  c = last_cell t i

  rain-held :
      (l count : ℕ)
      → count ≡ rain_count (steps_of s)
      → basin_inflow (mean_rain_inflow (rain_sum (rains_of s i) count) count (t.element i).area (t.element i).runoff) (1 + l) (t.element i).rain_noise.0
      ≡ lead_inflow t s (suc l) c
  unfolding basin_inflow lead_inflow forecast_inflow draining_into
  rain-held l count few = let m : 1 + l ≡ suc l = omega arith in rw (m, few, single-is t i used n, last-place t i used)

  -- what it has of its own at each lead
  own_held :
      (l weight count : ℕ)
      → count ≡ rain_count (steps_of s)
      → own_at_lead (lead_input (t.element i) weight count s i) (1 + l) ≡ forecast_own t s (suc l) c
  unfolding lead_input own_number own_at forecast_own own_of draining_into released
  own_held l weight count few =
      let e = t.element i in
      let rain = mean_rain_inflow (rain_sum (rains_of s i) count) count e.area e.runoff in
      let held = (figures_of s i).discharge.0 in
      rw (single-is t i used n, last-place t i used)
      (kind-both (λ (x y : Figures). x ≡ y) e.kind
      (λ k. rw (by-basin e.kind rain 0 held 0 k) (rain-held l count few)) (λ _. refl)
      (λ k. rw (by-dam e.kind rain 0 held 0 k)) (λ _ _ _. refl))

module _ (bytes : List ℕ) (s : State) (i : ℕ) (used : i < (table_in bytes).elements) (n : (element_at bytes i).kind ≢ tanks) where
  abbrev t : TableValues
  t = table_in bytes

  single : (t.element i).kind ≢ tanks
  single q = n (sym (ap (λ (e : Element). e.kind) (element-read bytes i used)) ∙ q)

  kind-same : (element_at bytes i).kind ≡ ((cells t).element (last_cell t i)).kind
  unfolding draining_into
  kind-same = ap (λ (e : Element). e.kind) (sym (element-read bytes i used)) ∙ ap (λ (e : Element). e.kind) (sym (single-is t i used single))

  noise-same : (element_at bytes i).system_noise ≡ ((cells t).element (last_cell t i)).system_noise
  unfolding draining_into
  noise-same =
      ap (λ (e : Element). e.system_noise) (sym (element-read bytes i used))
      ∙ ap (λ (e : Element). e.system_noise) (sym (single-is t i used single))

  pub input-of :
      (weight count leads w : ℕ)
      → weight ≡ element_weight t i
      → count ≡ rain_count (steps_of s)
      → InputOf (cells t) (lead_own t s) no_observation (lead_figures t s) w 1 (IsLast t) (own_row t) (lead_input (element_at bytes i) weight count s i)
      (last_cell t i) leads
  unfolding lead_input no_observation
  input-of weight count leads w is few =
      record {
        kind = kind-same;
        noise = noise-same;
        weight = is;
        observation = refl;
        own_part = λ l m. rw (← element-read bytes i used) (own_held t s i used single l weight count few);
      }

-- the last of an element of tanks
module _ (t : TableValues) (s : State) (i : ℕ) (used : i < t.elements) (k : (t.element i).kind ≡ tanks) where
  last-tank : (cells t).element (last_cell t i) ≡ tank_of (t.element i) (inlet_of t (t.element i).down)
  unfolding last_of
  last-tank = cell-is t i used ∙ rw (eq-same (t.element i).kind tanks k)

  tank-kind : (noise : ℕ) → (tank_element noise).kind ≡ ((cells t).element (last_cell t i)).kind
  unfolding tank_of
  tank-kind noise = rw last-tank

  tank-noise :
      (noise : ℕ) → noise ≡ (t.element i).system_noise.0 → thousandths noise ≡ ((cells t).element (last_cell t i)).system_noise
  unfolding tank_of
  tank-noise noise e = ap thousandths e ∙ rw last-tank

  tank-own : (noise l : ℕ) → own_at (tank_element noise) 0 (1 + l) ≡ lead_own t s l (last_cell t i)
  unfolding own_at own_of forecast_own by_kind tank_of
  tank-own noise l = rw last-tank

  pub last-tank-input :
      (noise H leads w : ℕ)
      → noise ≡ (t.element i).system_noise.0
      → H ≡ element_weight t i
      → InputOf (cells t) (lead_own t s) no_observation (lead_figures t s) w 1 (IsLast t) (own_row t) (tank_input noise H None) (last_cell t i) leads
  unfolding no_observation
  last-tank-input noise H leads w e is =
      record {
        kind = tank-kind noise;
        noise = tank-noise noise e;
        weight = is;
        observation = refl;
        own_part = λ l m. tank-own noise l;
      }
