-- The loops of a step: what they hold after i elements, one element more, and the end.
use Rattle.rating.specs.declared.RatedReading.{RatedReading}
use Rattle.std.specs.Prelude.{Result, Ok, Err, Option, Some, None, IsErrAnd}
use Rattle.std.proofs.lemmas.Result.{err_from_is_err_and}
use Prim.{Unit}
use Prim.Native.Nat.{ℕ, suc, ◌+◌, ◌-◌, ◌*◌, ◌≤◌, ◌<◌}
use mathlib.Core.Bool.{Bool, true, false, cond}
use mathlib.Core.List.{List}
use mathlib.Core.Logic.{◌≢◌, inl, inr, ⊎_elim}
use mathlib.Core.Path.{◌≡◌, refl, sym, ap, subst, ◌∙◌}
use native.Mathlib.Nat.{zero-mul}
use native.Mathlib.Omega.{arith}
use lib.ListN.{length, get_or, replicate, length-replicate}
use Rattle.sizes.specs.Sizes.{most_places, most_gauges}
use Rattle.refusal.specs.Answers.{Answer, accepted, refused, answer_of}
use Rattle.refusal.specs.declared.Refusal.{Refusal}
use Rattle.units.specs.Units.{C, S, thousandths}
use Rattle.units.specs.Ceiling.{some_passes, under_ceiling}
use Rattle.units.proofs.UnderLaws.{Under, under-accepted, refused-part}
use Rattle.method.specs.declared.Figures.{Figures}
use Rattle.method.specs.Figures.{FiguresFit}
use Rattle.method.specs.Inflow.{no_inflow, old_outflow, step_inflow, mean_rain_inflow}
use Rattle.method.proofs.InflowLaws.{old-outflow-fits}
use Rattle.inflow.specs.Basin.{basin_inflow}
use Rattle.elements.specs.declared.Element.{Element}
use Rattle.elements.specs.Elements.{element_at}
use Rattle.elements.specs.Kinds.{basin, dam, tanks, by_kind, basin_of, dam_of, extra_tanks}
use Rattle.elements.proofs.KindLaws.{by-basin, by-dam, kind-both, none-counts, eq-same, ne-same}
use Rattle.table.specs.Tables.{TableValues}
use Rattle.table.specs.Bounds.{AcceptedBounds, AcceptedTable}
use Rattle.table.specs.InUse.{table_in}
use Rattle.table.proofs.InUseLaws.{element-read}
use Rattle.table.proofs.HeldLaws.{element-there, element-bounds}
use Rattle.cells.specs.Cells.{first_cell, last_cell, inlet_of, last_of, tank_of, draining_into, cell_place, cells}
use Rattle.cells.proofs.CellLaws.{CellIn, last-is, last-most, last-in-use, last-cell, last-place, inner-cell, cell-used}
use Rattle.record.specs.Records.{rain_at, release_at, rain_of, release_of, input_rain, input_release, input_observation, Input, input_at}
use Rattle.table.specs.KindCounts.{basins_before, dams_before, basin_count, extra_before}
use Rattle.table.proofs.CountLaws.{count_none, count-more, basins-most, dams-most, extra-none, extra-more, extra-rise}
use Rattle.record.specs.Rules.{record_rules}
use Rattle.record.specs.Decoded.{ObservationFits}
use Rattle.record.specs.GaugeOrder.{gauge_here}
use Rattle.record.proofs.RecordLaws.{kind-read, rain-there, release-there, rain-read, release-read, inputs-fit}
use Rattle.record.proofs.CellInputs.{last-input, inner-input}
use Rattle.record.proofs.GaugeOrderLaws.{gauges-none, gauges-more, gauges-most}
use Rattle.state.specs.States.{State, figures_of}
use Rattle.state.specs.Bounds.{StateBounds}
use Rattle.element_step.specs.ElementStep.{released, own_of}
use Rattle.element_step.specs.Answers.{own_at}
use Rattle.walk.specs.Space.{Later}
use Rattle.network.specs.Step.{weight_of, new_figures, network_numbers, step_own, observed_in, step_figures, step_numbers}
use Rattle.element_weights.specs.Weights.{element_weight}
use Rattle.element_weights.proofs.WeightsLaws.{tank-weight}
use Rattle.answer_space.specs.Places.{figures_at, added, most_sum, most_sum_before, FiguresBelow}
use Rattle.answer_space.proofs.PlacesLaws.{below-most}
use Rattle.answer_space.proofs.EmptyLaws.{nothing-empty}
use Rattle.one_lead.specs.declared.ElementInput.{ElementInput}
use Rattle.one_lead.specs.Leads.{own_at_lead}
use Rattle.one_lead.specs.Worked.{step_lead, LeadReady, LeadWorked, tank_input}
use Rattle.one_lead.proofs.LeadLaws.{new-ready}
use Rattle.lead_walk.specs.Worked.{TankReady, LeadsDone, ElementWorked}
use Rattle.lead_walk.proofs.NetworkLaws.{walked-begin, walked_at}
use Rattle.lead_walk.proofs.LeadsLaws.{work-step-refused, work-step-done}
use Rattle.tank_walk.specs.declared.TankPlaces.{TankPlaces}
use Rattle.tank_walk.specs.Rows.{resting, EveryCell, cell_row}
use Rattle.tank_walk.specs.Tanks.{TanksOpened}
use Rattle.tank_walk.specs.Tanks as of-tanks
use Rattle.tank_walk.proofs.RowLaws.{tank-in}
use Rattle.tank_walk.proofs.TankLaws.{tanks-16}
use Rattle.tank_walk.proofs.StepRows.{step_places, extra-is, extra-some, step-tanks-ready, StepInputOf, ReadyAt, ready-one, ready-tanks, tanks-pass, ready-small, element-turn, element-part}
use Rattle.network_step.specs.declared.Passed.{Passed}
use Rattle.network_step.specs.declared.StepInput.{StepInput}
use Rattle.network_step.specs.Inputs.{input_of, own_number, passed_by, step_input, StepInputReady}
use Rattle.network_step.specs.declared.Reached.{Reached}
use Rattle.elements.specs.declared.Kind.{Kind}
use Rattle.network_step.specs.Held.{
  place_count,
  Cleared,
  OldReady,
  figures_by,
  Stepping,
  StepPasses,
  PassedBefore,
  ReachedIn,
  RunEnded,
  TanksMet,
  ElementStepped,
  past_tanks,
  StepWorked,
}

-- the inflow of a step is that of one rain at lead 0
inflow-same :
    (rain area f G lead : ℕ) → lead < 1 → basin_inflow (mean_rain_inflow rain 1 area f) (0 + lead) G ≡ step_inflow rain area f
unfolding basin_inflow mean_rain_inflow step_inflow
inflow-same rain area f G lead l = let e : 0 + lead ≡ 0 = omega arith in rw (e, zero-mul G)

-- what an element has of its own, by the number that the code has and by what the record brings it
own_same :
    (e : Element) (rain release lead : ℕ)
    → lead < 1
    → own_at e (by_kind e.kind (mean_rain_inflow rain 1 e.area e.runoff) 0 release 0) (0 + lead)
    ≡ own_of e.kind (step_inflow (by_kind e.kind rain 0 0 0) e.area e.runoff) (released e (by_kind e.kind 0 0 release 0))
unfolding own_at own_of
own_same e rain release lead l =
    kind-both (λ (x y : Figures). x ≡ y) e.kind
    (λ k. rw (by-basin e.kind (mean_rain_inflow rain 1 e.area e.runoff) 0 release 0 k, by-basin e.kind rain 0 0 0 k) (inflow-same _ _ _ _ lead l))
    (λ _. refl)
    (λ k. rw (by-dam e.kind (mean_rain_inflow rain 1 e.area e.runoff) 0 release 0 k, by-dam e.kind 0 0 release 0 k))
    (λ _ _ _. refl)

module _ (t : TableValues) where
  pub passed_none : PassedBefore t 0 (record { basins = 0; dams = 0 })
  passed_none = record { basins = count_none basin_of t; dams = count_none dam_of t }

  pub passed-more :
      (i : ℕ) {kind : Option Kind} {passed next : Passed}
      → PassedBefore t i passed
      → kind ≡ (t.element i).kind
      → next ≡ passed_by kind passed
      → PassedBefore t (i + 1) next
  unfolding passed_by
  passed-more i h k e =
      rw e
      (record { basins = count-more basin_of t i h.basins refl k; dams = count-more dam_of t i h.dams refl k })

  pub passed-few : (i : ℕ) {passed : Passed} → PassedBefore t i passed → (passed.basins ≤ i) × (passed.dams ≤ i)
  passed-few i h = (omega (arith, h.basins, basins-most t i), omega (arith, h.dams, dams-most t i))

-- places with nothing in them
pub cleared : (n room : ℕ) → n + 1 ≤ room → Cleared n (replicate room no_inflow)
cleared n room l = record { room = rw length-replicate l; none = (nothing-empty room).at }

-- the old outflow of element i is added
pub old-added :
    (table : List ℕ) (s : State) (i : ℕ) (before : List Figures) {e : Element} {first : Figures} {after : List Figures}
    → e ≡ element_at table i
    → first ≡ figures_of s i
    → after ≡ added before (element_at table i).down (old_outflow (figures_of s i))
    → after ≡ added before e.down (old_outflow first)
old-added table s i before same is put = rw (same, is) put

-- 16 where it is not that no number passes
passes : (ns : List ℕ) → (Under ns → ⊥) → refused 16 ≡ under_ceiling {A = Unit} ns tt
unfolding under_ceiling
passes ns h = go (some_passes ns) h
  where
    go : (some : Bool) → (some ≡ false → ⊥) → ◌≡◌ {A = Answer Unit} (refused 16) (cond some (refused 16) (accepted tt))
    go true k = refl
    go false k = absurd (k refl)

-- ---- what each cell is worked out of

module _ (t : TableValues) (i : ℕ) (used : i < t.elements) where
  -- the last cell of an element that is one cell, and of one of tanks
  one_cell : (t.element i).kind ≢ tanks → (cells t).element (last_cell t i) ≡ draining_into (t.element i) (inlet_of t (t.element i).down)
  unfolding last_of
  one_cell n = cell-used t (last_cell t i) (last-most t i used) ∙ (last-cell t i used ∙ rw (ne-same (t.element i).kind tanks n))

  last-tank : (t.element i).kind ≡ tanks → (cells t).element (last_cell t i) ≡ tank_of (t.element i) (inlet_of t (t.element i).down)
  unfolding last_of
  last-tank k = cell-used t (last_cell t i) (last-most t i used) ∙ (last-cell t i used ∙ rw (eq-same (t.element i).kind tanks k))

  inner-tank : (c : ℕ) → CellIn t i c → c < last_cell t i → (cells t).element c ≡ tank_of (t.element i) (c + 2)
  inner-tank c h less = cell-used t c (omega (arith, less, last-most t i used)) ∙ inner-cell t h less

  pub no_extra : (t.element i).kind ≢ tanks → extra_tanks (t.element i) ≡ 0
  unfolding extra_tanks
  no_extra n = rw (ne-same (t.element i).kind tanks n)

module _ (table bytes : List ℕ) (s : State) where
  abbrev t : TableValues
  t = table_in table

  abbrev own : ℕ → ℕ → Figures
  own l = step_own (cells t) (input_at (cells t) bytes)

  abbrev o : ℕ → Option RatedReading
  o = observed_in (input_at (cells t) bytes)

  abbrev old : ℕ → ℕ → Figures
  old = figures_by t bytes s

  by-again : (l c : ℕ) → old (suc l) c ≡ new_figures (cells t) (own l) o (old l) c
  unfolding figures_by
  by-again l c = refl

  by-none : (c : ℕ) → figures_of s (cell_place t c) ≡ old 0 c
  unfolding figures_by
  by-none c = refl

  by-step : (c : ℕ) → new_figures (cells t) (own 0) o (old 0) c ≡ step_figures t (input_at (cells t) bytes) s c
  unfolding figures_by step_figures
  by-step c = refl

  -- the numbers of 16
  all_under : Under (step_numbers t (input_at (cells t) bytes) s) → Under (network_numbers (cells t) (own 0) o (old 0) (cells t).elements)
  unfolding step_numbers figures_by
  all_under u = u

  under_all : Under (network_numbers (cells t) (own 0) o (old 0) (cells t).elements) → Under (step_numbers t (input_at (cells t) bytes) s)
  unfolding step_numbers figures_by
  under_all u = u

  -- ---- the walk

  pub stepping-begin : (space : List Figures) → ((p : ℕ) → figures_at space p ≡ no_inflow) → Stepping t bytes s 0 space
  unfolding extra_before
  stepping-begin space none = walked-begin (cells t) own o old 1 0 EveryCell (cell_row t) (resting t) 1 space none

  pub begun-reached :
      (space : List Figures) {n : ℕ} {r : Reached}
      → ((p : ℕ) → figures_at space p ≡ no_inflow)
      → n ≡ t.elements
      → r ≡ record { element = 0; tank = n; passed = record { basins = 0; dams = 0 }; gauges = 0 }
      → ReachedIn t bytes s r space
  begun-reached space {n} none is e =
      rw e
      (record {
        few = omega arith;
        tank = omega (arith, is, extra-none t);
        passed = passed_none t;
        gauges = gauges-none t;
        walked = stepping-begin space none;
      })

  -- all elements are worked out
  pub stepping-done : (space : List Figures) → Stepping t bytes s t.elements space → StepWorked (Ok tt) space t bytes s
  unfolding cells
  stepping-done space h =
      record {
        decided = under-accepted tt _ (under_all (h.under 0 (omega arith)));
        held =
            λ a.
            record {
              at =
                  λ c l.
                  subst (λ (p : ℕ). figures_at space p ≡ step_figures t (input_at (cells t) bytes) s c) (place_is (cell_row t c))
                  (walked_at (cells t) own o old 1 0 EveryCell (cell_row t) (resting t) 1 (cells t).elements space h 0 c (omega arith) l tt ∙ by-step c);
            };
      }
    where
      place_is : (p : ℕ) → p * 1 + 0 + 0 ≡ p
      place_is p = omega arith

  pub step-refused : (r : Result Unit Refusal) (k : Refusal) (space : List Figures) → IsErrAnd r (λ (e : Refusal). e ≡ k) → StepPasses t bytes s k → StepWorked r space t bytes s
  step-refused r k space p h = let e = err_from_is_err_and r p in rw (e.1, e.2) (record { decided = h; held = λ a. cc })

  -- ---- what the record brings an element

  kind-is : (i : ℕ) → i < t.elements → (element_at table i).kind ≡ (t.element i).kind
  kind-is i l = ap (λ (e : Element). e.kind) (sym (element-read table i l))

  rain-is : (i : ℕ) {k : ℕ} → i < t.elements → k ≡ basins_before t i → rain_of bytes (element_at table i).kind k ≡ input_rain t bytes i
  rain-is i l counted = rain-read t bytes i (kind-is i l) counted refl

  release-is :
      (i : ℕ) {b k : ℕ}
      → i < t.elements
      → b ≡ basin_count t
      → k ≡ dams_before t i
      → release_of bytes b (element_at table i).kind k ≡ input_release t bytes i
  release-is i l all counted = release-read t bytes i (kind-is i l) all counted refl

  module _ (accepts : AcceptedTable table) (kept : record_rules {A = Unit} t bytes (accepted tt) ≡ accepted tt) (i : ℕ) (l : i < t.elements) where
    pub rain-most : {n : ℕ} → n ≡ basins_before t i → (element_at table i).kind ≡ basin → rain_at bytes n ≤ 3000
    unfolding input_at rain_of
    rain-most {n} counted k =
        let fits : rain_of bytes (element_at table i).kind n ≤ 3000 = rw (rain-is i l counted) (inputs-fit t bytes accepts.bounds.gauge kept i l).rain in
        rw (by-basin (element_at table i).kind (rain_at bytes n) 0 0 0 k) at fits

    pub rain-room : {n : ℕ} → n ≡ basins_before t i → (element_at table i).kind ≡ basin → 2 * n + 5 ≤ length bytes
    rain-room counted k = rain-there t bytes kept i l (kind-is i l) counted k

    pub release-room : {b n : ℕ} → b ≡ basin_count t → n ≡ dams_before t i → (element_at table i).kind ≡ dam → 2 * b + 4 * n + 7 ≤ length bytes
    release-room all counted k = release-there t bytes kept i l (kind-is i l) all counted k

    release-most :
        {b : ℕ} (passed : Passed)
        → b ≡ basin_count t
        → passed.dams ≡ dams_before t i
        → (element_at table i).kind ≡ dam
        → own_number (element_at table i) bytes b passed ≤ C
    unfolding input_at release_of own_number
    release-most {b} passed all counted k =
        let fits : release_of bytes b (element_at table i).kind passed.dams ≤ C =
        rw (release-is i l all counted) (inputs-fit t bytes accepts.bounds.gauge kept i l).release in
        rw (by-dam (element_at table i).kind _ 0 (release_at bytes b passed.dams) 0 k) (rw (by-dam (element_at table i).kind 0 0 (release_at bytes b passed.dams) 0 k) at fits)

    observation-fits : {seen : Option RatedReading} → seen ≡ input_observation t bytes i t.gauges → ObservationFits seen
    unfolding input_at
    observation-fits e = rw e (inputs-fit t bytes accepts.bounds.gauge kept i l).observation

  -- ---- an element in use

  module _ (accepts : AcceptedTable table) (state : StateBounds t s) (i : ℕ) (l : i < t.elements) where
    to : Later i (t.element i).down
    to = (accepts.bounds.element i l).later

    there : (t.element i).down ≤ t.elements
    there = (accepts.bounds.element i l).down

    down_is : (t.element i).down ≡ (element_at table i).down
    down_is = ap (λ (e : Element). e.down) (element-read table i l)

    cells-few : last_cell t i < most_places
    cells-few = omega (arith, last-most t i l, accepts.bounds.places_most)

    -- its figures in the state
    figures-fit : FiguresFit (figures_of s i)
    figures-fit = subst (λ (p : ℕ). FiguresFit (figures_of s p)) (last-place t i l) (state.figures (last_cell t i) (last-in-use t i l))

    first-is : figures_of s i ≡ old 0 (last_cell t i)
    first-is = ap (figures_of s) (sym (last-place t i l)) ∙ by-none (last_cell t i)

    -- what its gauge observed
    observation-read : (input_at t bytes i).observation ≡ input_observation t bytes i t.gauges
    unfolding input_at
    observation-read = refl

    seen_last : {seen : Option RatedReading} → seen ≡ input_observation t bytes i t.gauges → seen ≡ observed_in (input_at (cells t) bytes) (last_cell t i)
    unfolding observed_in
    seen_last observed =
        observed ∙ sym (ap (λ (x : Input). x.observation) (last-input t accepts.bounds.gauge bytes i l) ∙ observation-read)

    -- all its cells but the last are worked out
    abbrev AtLast : List Figures → Type 0
    AtLast space = ReadyAt t own o old by-again i l to there space

    last-small : {space : List Figures} → AtLast space → FiguresBelow (figures_at space (element_at table i).down) most_sum_before
    last-small {space} h =
        subst (λ (p : ℕ). FiguresBelow (figures_at space p) most_sum_before) down_is (ready-small t own o old by-again i l to there h cells-few)

    module _ {c : ElementInput} {first : Figures} {d : ℕ} {before after : List Figures} (h : AtLast before) (of : StepInputOf t own o old c (last_cell t i)) (is : first ≡ figures_of s i) where
      last-turned : d ≡ (element_at table i).down → LeadsDone c first (i + 1) d 1 before after → Stepping t bytes s (i + 1) after
      last-turned down g =
          element-turn t own o old by-again i l to there h of (is ∙ first-is)
          (subst (λ (p : ℕ). LeadsDone c first (i + 1) p 1 before after) (down ∙ sym down_is) g)

      last-passes : {r : Result Unit Refusal} {k : Refusal} → r ≡ Err k → ElementWorked r c first (i + 1) d 1 before after → StepPasses t bytes s k
      last-passes e q =
          refused-part tt _ (step_numbers t (input_at (cells t) bytes) s)
          (λ u. element-part t own o old by-again i l to there h of (is ∙ first-is) (all_under u)) (sym (ap answer_of e) ∙ q.verdict)

    -- ---- an element that is one cell

    module _ (single : (element_at table i).kind ≢ tanks) where
      one : (t.element i).kind ≢ tanks
      one k = single (kind-is i l ∙ k)

      one-ready : {space : List Figures} → Stepping t bytes s i space → AtLast space
      one-ready h = ready-one t own o old by-again i l to there (no_extra t i l one) h

      -- its old outflow is ready to be added
      pub old-outflow-ready : {space : List Figures} → Stepping t bytes s i space → place_count t + 1 ≤ length space → OldReady table i s space
      old-outflow-ready h room =
          record {
            there = element-there table accepts l;
            place = omega (arith, accepts.bounds.elements_most);
            room = omega (arith, down_is, there, room);
            small = below-most (last-small (one-ready h)) (omega arith);
            fits = old-outflow-fits figures-fit;
          }

      own-last : step_own (cells t) (input_at (cells t) bytes) (last_cell t i) ≡ step_own t (input_at t bytes) i
      unfolding step_own draining_into released
      own-last = rw (one_cell t i l one, last-input t accepts.bounds.gauge bytes i l)

      -- as the code takes it
      module _
          {weight b : ℕ} {passed : Passed} {seen : Option RatedReading} (w : weight ≡ element_weight t i) (all : b ≡ basin_count t)
          (counted : PassedBefore t i passed) (observed : seen ≡ input_observation t bytes i t.gauges) where
        abbrev taken : ElementInput
        taken = (step_input table i weight bytes b passed seen).input

        own_is : (lead : ℕ) → lead < 1 → own_at_lead taken (0 + lead) ≡ step_own t (input_at t bytes) i
        unfolding step_own step_input input_of own_number input_at input_rain rain_of input_release release_of
        own_is lead m =
            rw (← element-read table i l, counted.basins, counted.dams, all) (own_same (t.element i) _ _ lead m)

        kind-same : taken.element.kind ≡ ((cells t).element (last_cell t i)).kind
        unfolding step_input input_of draining_into
        kind-same = kind-is i l ∙ sym (ap (λ (e : Element). e.kind) (one_cell t i l one))

        noise-same : taken.element.system_noise ≡ ((cells t).element (last_cell t i)).system_noise
        unfolding step_input input_of draining_into
        noise-same =
            sym (ap (λ (e : Element). e.system_noise) (one_cell t i l one) ∙ ap (λ (e : Element). e.system_noise) (element-read table i l))

        input-of : StepInputOf t own o old taken (last_cell t i)
        unfolding step_input input_of
        input-of =
            record {
              kind = kind-same;
              noise = noise-same;
              weight = w;
              observation = seen_last observed;
              own_part = λ lead m. own_is lead m ∙ sym own-last;
            }

        -- it is ready to be worked out
        pub step-ready :
            {c : ElementInput} {first : Figures} {space : List Figures}
            → record_rules {A = Unit} t bytes (accepted tt) ≡ accepted tt
            → weight ≤ S
            → c ≡ taken
            → first ≡ figures_of s i
            → Stepping t bytes s i space
            → place_count t + 1 ≤ length space
            → LeadReady most_sum_before c (step_lead (i + 1) c.element.down) first space
        unfolding step_input input_of
        step-ready kept few same is h room =
            let e = element-bounds table accepts l in
            rw (same, is)
            (record {
              in_range = record {
                element = record { kind = e.single single; system_noise = omega (arith, e.system_noise); rain_noise = e.rain_noise };
                weight = few;
                first_lead = omega arith;
                release = release-most accepts kept i l passed all counted.dams;
                observation = observation-fits accepts kept i l observed;
              };
              number = omega arith;
              here = omega (arith, room);
              below = omega (arith, e.down, room);
              apart = λ q. ⊎_elim (λ z. omega arith) (λ m. omega arith) e.later;
              old = figures-fit;
              small = last-small (one-ready h);
            })

        module _
            {c : ElementInput} {first : Figures} {d : ℕ} {before after : List Figures} (same : c ≡ taken) (is : first ≡ figures_of s i)
            (h : Stepping t bytes s i before) where
          -- one element more
          pub stepping-again : d ≡ (element_at table i).down → LeadsDone c first (i + 1) d 1 before after → Stepping t bytes s (i + 1) after
          stepping-again down g =
              last-turned (one-ready h) input-of is down (subst (λ (x : ElementInput). LeadsDone x first (i + 1) d 1 before after) same g)

          -- it refuses, and with it the step
          pub stepping-refused : {k : Refusal} → ElementWorked (Err k) c first (i + 1) d 1 before after → StepPasses t bytes s k
          stepping-refused {k} q =
              last-passes (one-ready h) input-of is refl
              (subst (λ (x : ElementInput). ElementWorked (Err k) x first (i + 1) d 1 before after) same q)

    -- ---- an element of tanks

    module _ (kind : (t.element i).kind ≡ tanks) {noise weight : ℕ} (system : noise ≡ (t.element i).system_noise.0) (w : weight ≡ element_weight t i) where
      module _ (c d : ℕ) (ob : Option RatedReading) (is : (cells t).element c ≡ tank_of (t.element i) d) where
        tank-own : (lead : ℕ) → own_at_lead (tank_input noise weight ob) (1 + lead) ≡ step_own (cells t) (input_at (cells t) bytes) c
        unfolding step_own own_at own_of by_kind tank_of
        tank-own lead = rw is

        tank-kind : (tank_input noise weight ob).element.kind ≡ ((cells t).element c).kind
        unfolding tank_of
        tank-kind = rw is

        tank-noise : (tank_input noise weight ob).element.system_noise ≡ ((cells t).element c).system_noise
        unfolding tank_of
        tank-noise = rw is (ap thousandths system)

        tank-of :
            weight_of (cells t) c ≡ element_weight t i
            → ob ≡ observed_in (input_at (cells t) bytes) c
            → StepInputOf t own o old (tank_input noise weight ob) c
        tank-of same seen =
            record {
              kind = tank-kind;
              noise = tank-noise;
              weight = w ∙ sym same;
              observation = seen;
              own_part = λ lead m. tank-own lead;
            }

      nothing : {c : ℕ} → CellIn t i c → c < last_cell t i → None ≡ observed_in (input_at (cells t) bytes) c
      unfolding observed_in
      nothing inside inner = sym (ap (λ (x : Input). x.observation) (inner-input t accepts.bounds.gauge bytes inside inner))

      -- those above the last, and the last
      above_of : (j : ℕ) → j < extra_tanks (t.element i) → StepInputOf t own o old (tank_input noise weight None) (first_cell t i + j)
      above_of j m = tank-of (first_cell t i + j) _ _ (inner-tank t i l _ inside inner) (tank-weight t i _ inside inner) (nothing inside inner)
        where
          inside : CellIn t i (first_cell t i + j)
          inside = tank-in t i j l (omega (arith, m))

          inner : first_cell t i + j < last_cell t i
          inner = omega (arith, m, last-is t i)

      last-of : {seen : Option RatedReading} → seen ≡ input_observation t bytes i t.gauges → StepInputOf t own o old (tank_input noise weight seen) (last_cell t i)
      last-of observed = tank-of (last_cell t i) _ _ (last-tank t i l kind) refl (seen_last observed)

      module _ {x extra : ℕ} (place : x ≡ t.elements + extra_before t i) (many : extra ≡ extra_tanks (t.element i)) where
        abbrev placed : TankPlaces
        placed = record { own = i + 1; first = x + 1; width = 1; leads = 1 }

        -- those above the last are ready to be worked out
        pub open-ready : {space : List Figures} → place_count t + 1 ≤ length space → weight ≤ S → of-tanks.TanksReady noise weight extra x 0 placed s space
        open-ready room few = rw (place, many) (step-tanks-ready t i l accepts.bounds kind state room system few)

        module _
            {r : Result Unit Refusal} {before middle : List Figures} (h : Stepping t bytes s i before)
            (g : TanksOpened r noise weight extra x placed s before middle) where
          opened : TanksOpened r noise weight (extra_tanks (t.element i)) (t.elements + extra_before t i) (step_places t i) s before middle
          opened = rw (place, many) at g

          some : 0 < extra_tanks (t.element i)
          some = extra-some t i l accepts.bounds kind

          opened-last : r ≡ (Ok tt) → AtLast middle
          opened-last a = ready-tanks t own o old by-again i l to there some above_of by-none h opened a

          pub opened-passes : {k : Refusal} → r ≡ Err k → StepPasses t bytes s k
          opened-passes {k} e =
              ap refused (tanks-16 opened.worked e)
              ∙ passes (step_numbers t (input_at (cells t) bytes) s)
              (λ u. tanks-pass t own o old by-again i l to there some above_of by-none h opened e (all_under u))

          module _
              (a : r ≡ (Ok tt)) {seen : Option RatedReading} (observed : seen ≡ input_observation t bytes i t.gauges) {first : Figures}
              (is : first ≡ figures_of s i) {d : ℕ} (down : d ≡ (element_at table i).down) where
            -- the last is ready
            pub last-ready-tank :
                record_rules {A = Unit} t bytes (accepted tt) ≡ accepted tt
                → weight ≤ S
                → place_count t + 1 ≤ length before
                → length middle ≡ length before
                → TankReady (tank_input noise weight seen) first (i + 1) d 1 middle
            last-ready-tank kept few room size =
                let e = accepts.bounds.element i l in
                rw (is, down)
                (record {
                  in_range = record {
                    element = record { kind = inr (inl refl); system_noise = omega (arith, system, e.system_noise); rain_noise = omega arith };
                    weight = few;
                    first_lead = omega arith;
                    release = λ k. cc;
                    observation = observation-fits accepts kept i l observed;
                  };
                  fits = figures-fit;
                  places = record {
                    short = omega arith;
                    here_room = omega (arith, room, size, l);
                    below_room = omega (arith, room, size, down_is, there);
                    apart = ⊎_elim (λ z. inr (omega (arith, z, down_is))) (λ m. inl (omega (arith, m, down_is))) to;
                    small = λ lead m. small_at lead m;
                  };
                })
              where
                small_at : (lead : ℕ) → lead < 1 → FiguresBelow (figures_at middle ((element_at table i).down + lead)) most_sum_before
                small_at lead m =
                    let e : (element_at table i).down ≡ (element_at table i).down + lead = omega (arith, m) in
                    subst (λ (p : ℕ). FiguresBelow (figures_at middle p) most_sum_before) e (last-small (opened-last a))

            -- all tanks are worked out, or some number passes
            pub tanks-stepped :
                {v : Result Unit Refusal} {after : List Figures}
                → ElementWorked v (tank_input noise weight seen) first (i + 1) d 1 middle after
                → ElementStepped v t bytes s i after
            tanks-stepped q =
                record {
                  done = λ b. last-turned (opened-last a) (last-of observed) is down (q.done b);
                  passes = λ k e. last-passes (opened-last a) (last-of observed) is e q;
                }

-- ---- the turn of an element that is one cell

-- what is known at it of the run, of the element and of what its gauge observed
pub record OneTurn
    (table bytes : List ℕ) (s : State) (weight : List ℕ) (basins i : ℕ) (passed : Passed) (ob : Option RatedReading) (space : List Figures)
    : Type 0 where
  pub accepts : AcceptedTable table
  pub state : StateBounds (table_in table) s
  pub kept : record_rules {A = Unit} (table_in table) bytes (accepted tt) ≡ accepted tt
  pub counted : basins ≡ basin_count (table_in table)
  pub used : i < (table_in table).elements
  pub single : (element_at table i).kind ≢ tanks
  pub come_past : PassedBefore (table_in table) i passed
  pub seen : ob ≡ input_observation (table_in table) bytes i (table_in table).gauges
  pub weighed : (get_or weight i 0 ≡ element_weight (table_in table) i) × (get_or weight i 0 ≤ S)
  pub walked : Stepping (table_in table) bytes s i space
  pub room : place_count (table_in table) + 1 ≤ length space

module _ {table bytes weight : List ℕ} {space : List Figures} {s : State} {basins i : ℕ} {passed : Passed} {ob : Option RatedReading} (k : OneTurn table bytes s weight basins i passed ob space) where
  pub outflow-ready : OldReady table i s space
  outflow-ready = old-outflow-ready table bytes s k.accepts k.state i k.used k.single k.walked k.room

  pub input-ready : StepInputReady table i bytes basins passed
  input-ready =
      let e = element-bounds table k.accepts k.used in
      record {
        there = element-there table k.accepts k.used;
        rain = rain-room table bytes s k.accepts k.kept i k.used k.come_past.basins;
        rain_most = rain-most table bytes s k.accepts k.kept i k.used k.come_past.basins;
        release = release-room table bytes s k.accepts k.kept i k.used k.counted k.come_past.dams;
        few = passed-few _ i k.come_past;
        area = e.area;
        runoff = e.runoff;
      }

  -- it is worked out of this, after its old outflow was added
  module _ {r : StepInput} (is : r ≡ step_input table i (get_or weight i 0) bytes basins passed ob) {before : Figures} (b : before ≡ figures_of s i) where
    element-is : r.input.element ≡ element_at table i
    unfolding step_input input_of
    element-is = ap (λ (x : StepInput). x.input.element) is

    lead_zero : r.input.first_lead ≡ 0
    unfolding step_input input_of
    lead_zero = ap (λ (x : StepInput). x.input.first_lead) is

    -- it is ready to be worked out, from its old figures on
    one_ready : LeadReady most_sum_before r.input (step_lead (i + 1) r.input.element.down) before space
    one_ready =
        step-ready table bytes s k.accepts k.state i k.used k.single k.weighed.0 k.counted k.come_past k.seen k.kept k.weighed.1
        (ap (λ (x : StepInput). x.input) is) b k.walked k.room

    module _ {middle : List Figures} (a : middle ≡ added space (element_at table i).down (old_outflow (figures_of s i))) where
      summed : middle ≡ added space r.input.element.down (old_outflow before)
      summed = old-added _ _ _ _ element-is b a

      pub work-ready : LeadReady most_sum r.input (step_lead (i + 1) r.input.element.down) before middle
      work-ready = new-ready _ _ _ _ one_ready _ refl _ summed

      module _
          {w : Result Figures Refusal} {after : List Figures}
          (worked : LeadWorked (λ x. x) w r.input (step_lead (i + 1) r.input.element.down) before middle after) where
        pub one-refused : {j : Refusal} → w ≡ Err j → StepPasses (table_in table) bytes s j
        one-refused {j} e =
            stepping-refused table bytes s k.accepts k.state i k.used k.single k.weighed.0 k.counted k.come_past k.seen
            (ap (λ (x : StepInput). x.input) is) b k.walked
            (work-step-refused _ _ _ _ _ _ _ lead_zero one_ready summed _ worked {s = Err j} e refl)

        pub one-more : {x : Figures} → w ≡ Ok x → Stepping (table_in table) bytes s (i + 1) after
        one-more e =
            stepping-again table bytes s k.accepts k.state i k.used k.single k.weighed.0 k.counted k.come_past k.seen
            (ap (λ (x : StepInput). x.input) is) b k.walked (ap (λ (x : Element). x.down) element-is)
            (work-step-done _ _ _ _ _ _ _ lead_zero one_ready summed _ worked e)

        pub passed-on : PassedBefore (table_in table) (i + 1) r.passed
        unfolding step_input
        passed-on = passed-more _ i k.come_past (kind-read _ _ k.used refl) (ap (λ (x : StepInput). x.passed) is)

-- ---- how far a step has come

-- the tanks of an element as the code reads them
module _ (table : List ℕ) (accepts : AcceptedTable table) {i : ℕ} (used : i < (table_in table).elements) (kind : ((table_in table).element i).kind ≡ tanks) where
  tanks-read : (2 ≤ (element_at table i).runoff) × ((element_at table i).runoff ≤ 8)
  tanks-read = (element-bounds table accepts used).tanks (ap (λ (e : Element). e.kind) (sym (element-read table i used)) ∙ kind)

  pub tanks-there : ((i ≤ 1000) × (26 * i + 36 ≤ length table)) × (1 ≤ (element_at table i).runoff)
  tanks-there = (element-there table accepts used, omega (arith, tanks-read.0))

  pub tanks-few : {extra : ℕ} → extra ≡ (element_at table i).runoff - 1 → extra ≤ 7
  tanks-few h = omega (arith, h, tanks-read.1)

  pub tanks-many : {extra : ℕ} → extra ≡ (element_at table i).runoff - 1 → extra ≡ extra_tanks ((table_in table).element i)
  tanks-many h =
      h ∙ sym (extra-is (table_in table) i used accepts.bounds kind ∙ ap (λ (e : Element). e.runoff - 1) (element-read table i used))

-- after an element of tanks
pub past-made :
    (t : TableValues) (met : Reached) {extra here : ℕ} {r : Reached}
    → extra ≡ extra_tanks (t.element met.element)
    → here ≡ gauge_here t met.gauges met.element
    → r ≡ record { element = met.element + 1; tank = met.tank + extra; passed = met.passed; gauges = met.gauges + here }
    → r ≡ past_tanks t met
unfolding past_tanks
past-made t met e f is = is ∙ rw (e, f)

pub past-element : (t : TableValues) (met : Reached) {r : Reached} → r ≡ past_tanks t met → r.element ≡ met.element + 1
unfolding past_tanks
past-element t met e = rw e

module _ (t : TableValues) (bytes : List ℕ) (s : State) where
  -- one element more that is one cell
  pub reached-again :
      {i tank gauges here : ℕ} {passed next : Passed} {before after : List Figures}
      → i < t.elements
      → (t.element i).kind ≢ tanks
      → ReachedIn t bytes s (record { element = i; tank = tank; passed = passed; gauges = gauges }) before
      → PassedBefore t (i + 1) next
      → here ≡ gauge_here t gauges i
      → Stepping t bytes s (i + 1) after
      → ReachedIn t bytes s (record { element = i + 1; tank = tank; passed = next; gauges = gauges + here }) after
  reached-again {i} used one h passed here walked =
      record {
        few = omega (arith, used);
        tank = omega (arith, h.tank, extra-more t i refl refl, no_extra t i used one);
        passed = passed;
        gauges = gauges-more t i h.gauges here;
        walked = walked;
      }

  -- an element of tanks is next
  pub met-tanks :
      {from met : Reached} {i tank gauges : ℕ} {passed : Passed} {space : List Figures}
      → met ≡ record { element = i; tank = tank; passed = passed; gauges = gauges }
      → i < t.elements
      → from.element ≤ i
      → (t.element i).kind ≡ tanks
      → ReachedIn t bytes s (record { element = i; tank = tank; passed = passed; gauges = gauges }) space
      → TanksMet t bytes s from met space
  met-tanks e used later kind h = rw e (record { used = used; later = later; kind = kind; reached = h })

  -- a run ends before an element of tanks, or after the last
  pub run-met :
      {r : Result (Option Reached) Refusal} {run : Option Reached} {from met : Reached} {space : List Figures}
      → r ≡ Ok run
      → run ≡ Some met
      → RunEnded r t bytes s from space
      → TanksMet t bytes s from met space
  unfolding RunEnded
  run-met e f h = rw (e, f) at h

  pub run-done :
      (from : Reached) {r : Result (Option Reached) Refusal} {run : Option Reached} {space : List Figures}
      → r ≡ Ok run
      → run ≡ None
      → RunEnded r t bytes s from space
      → Stepping t bytes s t.elements space
  unfolding RunEnded
  run-done from e f h = rw (e, f) at h

  pub run-passed : (from : Reached) (space : List Figures) {r : Result (Option Reached) Refusal} {k : Refusal} → r ≡ Err k → RunEnded r t bytes s from space → StepPasses t bytes s k
  unfolding RunEnded
  run-passed from space e h = rw e at h

  -- a run ends with a refusal that is passed on
  pub run-refused : (r : Result (Option Reached) Refusal) (k : Refusal) (from : Reached) (space : List Figures) → IsErrAnd r (λ (e : Refusal). e ≡ k) → StepPasses t bytes s k → RunEnded r t bytes s from space
  unfolding RunEnded
  run-refused r k from space p h = let e = err_from_is_err_and r p in rw (e.1, e.2) h

  pub tanks-refused : (r : Result Unit Refusal) (k : Refusal) (i : ℕ) (space : List Figures) → IsErrAnd r (λ (e : Refusal). e ≡ k) → StepPasses t bytes s k → ElementStepped r t bytes s i space
  tanks-refused r k i space p h =
      let e = err_from_is_err_and r p in
      rw (e.1, e.2) (record { done = λ a. cc; passes = λ k q. subst (λ (x : Refusal). StepPasses t bytes s x) (one-refusal q) h })
    where
      one-refusal : {j k : Refusal} → ◌≡◌ {A = Result Unit Refusal} (Err j) (Err k) → j ≡ k
      one-refusal q = cc

  -- and done
  pub past-reached :
      {met r : Reached} {before after : List Figures}
      → met.element < t.elements
      → (t.element met.element).kind ≡ tanks
      → ReachedIn t bytes s met before
      → r ≡ past_tanks t met
      → Stepping t bytes s (met.element + 1) after
      → ReachedIn t bytes s r after
  unfolding past_tanks
  past-reached {met} used kind h e walked =
      let none : (basin_of tanks ≡ 0) × (dam_of tanks ≡ 0) = none-counts tanks (λ k. cc) (λ k. cc) (λ k. cc) in
      rw e
      (record {
        few = omega (arith, used);
        tank = omega (arith, h.tank, extra-more t met.element refl refl);
        passed = record {
          basins = omega (arith, count-more basin_of t met.element h.passed.basins (sym none.0) (sym kind));
          dams = omega (arith, count-more dam_of t met.element h.passed.dams (sym none.1) (sym kind));
        };
        gauges = gauges-more t met.element h.gauges refl;
        walked = walked;
      })

  -- all elements are passed
  pub reached-all : {r : Reached} {space : List Figures} → t.elements ≤ r.element → ReachedIn t bytes s r space → Stepping t bytes s t.elements space
  reached-all {r} {space} all h = subst (λ (i : ℕ). Stepping t bytes s i space) (omega (arith, all, h.few)) h.walked

  -- so many tanks and gauges
  pub tank-most : {r : Reached} {space : List Figures} → AcceptedBounds t → ReachedIn t bytes s r space → r.tank ≤ most_places
  tank-most {r} b h = omega (arith, h.tank, b.places_most, extra-rise t r.element t.elements h.few)

  pub gauges-few : {r : Reached} {space : List Figures} → AcceptedBounds t → ReachedIn t bytes s r space → r.gauges ≤ most_gauges
  gauges-few {r} b h = omega (arith, h.gauges, gauges-most t r.element, b.gauges_most)
