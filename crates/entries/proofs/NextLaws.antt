-- A state that a start or an accepted step left is one that rule 8 accepts.
use Rattle.rating.specs.declared.RatedReading.{RatedReading}
use Rattle.refusal.specs.declared.Refusal.{Refusal}
use Rattle.std.specs.Prelude.{Result, Ok, Option, Some, None}
use Prim.{Unit}
use Prim.Native.Nat.{ℕ, ◌+◌, ◌≤◌, ◌<◌}
use mathlib.Core.Bool.{Bool, true, false, cond}
use mathlib.Core.List.{List, [], ◌∷◌}
use mathlib.Core.Logic.{◌≢◌, ⊎_elim}
use mathlib.Core.Path.{◌≡◌, refl, sym, ap, subst, ◌∙◌}
use borrow.Author.Tests.{le-leb, eq-eqb}
use native.Mathlib.Nat.{eq-or-lt_of_le}
use native.Mathlib.Omega.{arith}
use lib.ListN.{length}
use Rattle.sizes.specs.Sizes.{state_numbers}
use Rattle.refusal.specs.Answers.{accepted, refused}
use Rattle.refusal.proofs.RuleLaws.{not-both, rule-kept}
use Rattle.units.specs.Ceiling.{some_passes, under_ceiling}
use Rattle.units.proofs.UnderLaws.{Under, first_under, parts-under}
use Rattle.method.specs.declared.Figures.{Figures}
use Rattle.method.specs.Figures.{FiguresFit}
use Rattle.method.specs.Inflow.{no_inflow, reach_inflow, inflow_numbers}
use Rattle.method.proofs.FiguresLaws.{under-figures}
use Rattle.method.specs.Routing.{routed, variance_numbers, routing_numbers}
use Rattle.method.specs.Correction.{corrected, correction_numbers}
use Rattle.fields.proofs.RangeLaws.{all-below}
use Rattle.elements.specs.declared.Kind.{Kind}
use Rattle.elements.specs.declared.Kind.TheVariants.{Basin, Reach, Dam, Tanks}
use Rattle.elements.specs.declared.Element.{Element}
use Rattle.elements.specs.Kinds.{basin, tanks, by_kind, IsKind, same_kind}
use Rattle.elements.proofs.KindLaws.{kind-both, no_other}
use Rattle.table.specs.Tables.{TableValues}
use Rattle.table.specs.Bounds.{TableBounds}
use Rattle.table.specs.KindCounts.{extra_count}
use Rattle.cells.specs.Cells.{last_cell, cells}
use Rattle.cells.proofs.CellLaws.{last-most, last-in-use, last-place, cell_kind, one-kind, last-kind, cell-used, tank-found}
use Rattle.record.specs.Records.{Input, input_at}
use Rattle.record.specs.Rules.{record_rules}
use Rattle.record.proofs.RecordLaws as record-laws
use Rattle.state.specs.declared.Rains.{Rains}
use Rattle.state.specs.States.{State, ElementState, steps_of, figures_of, cell_figures, place_of}
use Rattle.state.specs.Start.{first_figures, started}
use Rattle.state.specs.Rules.{figures_fit, rains_fit, place_fits, elements_fit, tanks_fit, state_fits, steps_left}
use Rattle.state.specs.Bounds.{RainsUnder, StateBounds}
use Rattle.state.specs.Answers.{Answered}
use Rattle.state.proofs.StateLaws.{started-elements, started-steps, started-figures, started-rains}
use Rattle.state.proofs.BoundsLaws.{state-bounds}
use Rattle.state.proofs.AnswerLaws.{answered-next}
use Rattle.walk.specs.Walk.{new_cell}
use Rattle.element_step.specs.ElementStep.{
  corrected_by,
  moved,
  stored,
  element_step,
  observation_numbers,
  move_numbers,
  stored_numbers,
  element_numbers,
}
use Rattle.element_step.specs.Rains.{shifted_rains}
use Rattle.network.specs.Step.{network_cell, above_of, new_figures, network_numbers, step_own, observed_in, step_figures, stepped, step_numbers}
use Rattle.network.proofs.NumbersLaws.{element-part}
use Rattle.network.proofs.StepLaws.{stepped-length, stepped-elements, stepped-steps, stepped-figures, stepped-rains}
use Rattle.entries.specs.Entries.{step_rules, step_on_answer}
use Rattle.entries.proofs.CellRules.{cells-kept}

-- ---- the figures

routed-fit : (H W : ℕ) (inflow old : Figures) → Under (routing_numbers H W inflow old) → FiguresFit (routed H W inflow old)
unfolding routing_numbers variance_numbers routed
routed-fit H W inflow old u =
    let q = first_under _ _ u in
    let e = first_under _ _ q.1 in
    let a = first_under _ _ e.1 in
    let b = first_under _ _ a.1 in
    let d = first_under _ _ b.1 in
    let v = first_under _ _ d.1 in
    record { discharge = q.0; discharge_margin = e.0; variance = v.0; variance_margin = d.0 }

corrected-fit : (R z : ℕ) (x : Figures) → Under (correction_numbers R z x) → FiguresFit (corrected R z x)
unfolding correction_numbers corrected
corrected-fit R z x u =
    let q = first_under _ _ u in
    let e = first_under _ _ q.1 in
    let v = first_under _ _ e.1 in
    let d = first_under _ _ v.1 in
    record { discharge = q.0; discharge_margin = e.0; variance = v.0; variance_margin = d.0 }

moved_fit :
    (H : ℕ) (e : Element) (o : Option RatedReading) (inflow old : Figures)
    → Under (move_numbers H e o inflow old)
    → FiguresFit (corrected_by o (moved H e inflow old))
unfolding move_numbers observation_numbers corrected_by moved
moved_fit H e None inflow old u =
    routed-fit H e.system_noise.0 inflow old (parts-under (routing_numbers H e.system_noise.0 inflow old) [] u).0
moved_fit H e (Some r) inflow old u =
    let x = routed H e.system_noise.0 inflow old in
    let observed = (parts-under (routing_numbers H e.system_noise.0 inflow old) (r.noise.0 ∷ correction_numbers r.noise.0 r.discharge.0 x) u).1 in
    corrected-fit r.noise.0 r.discharge.0 x (first_under r.noise.0 _ observed).1

-- an element that stores water, and any
stored-fit :
    (H : ℕ) (e : Element) (o : Option RatedReading) (inflow old : Figures)
    → Under (stored_numbers H e o inflow old)
    → FiguresFit (stored H e o inflow old)
unfolding stored_numbers stored
stored-fit H e o inflow old u = moved_fit H e o inflow old (parts-under (inflow_numbers inflow) _ u).1

nothing-fits : FiguresFit no_inflow
unfolding no_inflow
nothing-fits = record { discharge = omega arith; discharge_margin = omega arith; variance = omega arith; variance_margin = omega arith }

element-fit :
    (H : ℕ) (e : Element) (own : Figures) (o : Option RatedReading) (above old : Figures)
    → Under (element_numbers H e own o above old)
    → FiguresFit (element_step H e own o above old)
unfolding element_numbers element_step
element-fit H e own o above old =
    kind-both (λ (ns : List ℕ) (f : Figures). Under ns → FiguresFit f) e.kind (λ _. stored-fit H e o own old)
    (λ _. stored-fit H e o (reach_inflow above) old) (λ _. under-figures own) (λ _ _ _ _. nothing-fits)

-- the new figures of an element, where the numbers of the first m pass rule 16
pub new-fit :
    (t : TableValues) (own : ℕ → Figures) (o : ℕ → (Option RatedReading)) (old : ℕ → Figures) (m i : ℕ)
    → i < m
    → Under (network_numbers t own o old m)
    → FiguresFit (new_figures t own o old i)
unfolding new_figures new_cell network_cell above_of
new-fit t own o old m i l u = element-fit _ _ _ _ _ _ (element-part t own o old i m l u)

-- ---- what rule 8 asks

figures-fit : (f : Figures) → FiguresFit f → figures_fit f ≡ true
unfolding figures_fit
figures-fit f h =
    rw (le-leb _ _ h.discharge, le-leb _ _ h.discharge_margin, le-leb _ _ h.variance, le-leb _ _ h.variance_margin)

rains-fit : (r : Rains) → RainsUnder r → rains_fit r ≡ true
unfolding rains_fit
rains-fit r h = rw (le-leb _ _ h.first, le-leb _ _ h.second, le-leb _ _ h.third)

place-fits :
    (kind : Option Kind) (p : ElementState)
    → (kind ≢ tanks → IsKind kind)
    → FiguresFit p.figures
    → (kind ≡ basin → RainsUnder p.rains)
    → place_fits kind p ≡ true
unfolding place_fits same_kind by_kind
place-fits (Some Basin) p single f r = rw (figures-fit _ f, rains-fit _ (r refl))
place-fits (Some Reach) p single f r = figures-fit _ f
place-fits (Some Dam) p single f r = figures-fit _ f
place-fits (Some Tanks) p single f r = figures-fit _ f
place-fits None p single f r = absurd (no_other (single (λ e. cc)) (λ e. cc) (λ e. cc) (λ e. cc))

-- a state within the bounds of rule 8 is accepted by it
pub bounds-fit : (t : TableValues) (s : State) → TableBounds (cells t) → StateBounds t s → state_fits t s ≡ true
unfolding state_fits elements_fit tanks_fit place_of
bounds-fit t s b h =
    rw (eq-eqb _ _ h.elements, le-leb _ _ h.steps, all-below _ t.elements places)
    (all-below _ (extra_count t) tanks-fit)
  where
    places : (i : ℕ) → i < t.elements → place_fits (t.element i).kind (place_of s i) ≡ true
    places i l =
        let c = last_cell t i in
        let m = last-in-use t i l in
        let k : ((cells t).element c).kind ≡ cell_kind (t.element i) = ap (λ (e : Element). e.kind) (cell-used t c (last-most t i l)) ∙ last-kind t i l in
        let one : (t.element i).kind ≢ tanks → cell_kind (t.element i) ≡ (t.element i).kind = one-kind (t.element i) in
        place-fits (t.element i).kind (place_of s i) (λ n. subst IsKind (k ∙ one n) (b.element c m).kind)
        (rw (last-place t i l) at (h.figures c m))
        (λ e. rw (last-place t i l) at (h.rains c m (k ∙ (one (λ q. cc) ∙ e))))

    tanks-fit : (x : ℕ) → x < extra_count t → figures_fit (figures_of s (t.elements + x)) ≡ true
    tanks-fit x l =
        let f = tank-found t x l in
        figures-fit _ (rw f.is at (h.figures f.cell f.used))

-- ---- an answer that rule 16 lets through

pub under-kept : {A : Type 0} (ns : List ℕ) (a : A) {x : A} → under_ceiling ns a ≡ accepted x → (x ≡ a) × Under ns
unfolding under_ceiling
under-kept {A} ns a {x} h = go (some_passes ns) refl h
  where
    go : (some : Bool) → some_passes ns ≡ some → cond some (refused 16) (accepted a) ≡ accepted x → (x ≡ a) × Under ns
    go true e k = absurd (not-both k refl)
    go false e k = (cc, e)

-- ---- a step

shifted-under : (rain : ℕ) (r : Rains) → rain ≤ 3000 → RainsUnder r → RainsUnder (shifted_rains rain r)
unfolding shifted_rains
shifted-under rain r l h = record { first = l; second = h.first; third = h.second }

module _
    (t : TableValues) (input : ℕ → Input) (s : State) (b : TableBounds (cells t)) (full : length s ≡ state_numbers)
    (fits : state_fits t s ≡ true) (left : steps_left s ≡ true)
    (rain : (i : ℕ) → i < (cells t).elements → (input i).rain ≤ 3000) (under : Under (step_numbers t input s)) where
  before : StateBounds t s
  before = state-bounds t s fits

  steps-fit : steps_of s + 1 ≤ 10000
  unfolding steps_left
  steps-fit = ⊎_elim (λ e. absurd (last e)) (λ k. omega arith) (eq-or-lt_of_le before.steps)
    where
      last : steps_of s ≡ 10000 → ⊥
      last e = let k = eq-eqb _ _ e in let z : ◌≡◌ {A = ℕ} 0 1 = cc in omega arith

  new-figures-fit : (i : ℕ) → i < (cells t).elements → FiguresFit (step_figures t input s i)
  unfolding step_figures step_numbers
  new-figures-fit i l = new-fit (cells t) (step_own (cells t) input) (observed_in input) (cell_figures t s) (cells t).elements i l under

  stepped-bounds : StateBounds t (stepped t input s)
  stepped-bounds =
      record {
        elements = stepped-elements t input s ∙ before.elements;
        steps = omega (arith, stepped-steps t input s full b.elements_most, steps-fit);
        figures = λ i l. subst FiguresFit (sym (stepped-figures t input s full b.elements_most i l)) (new-figures-fit i l);
        rains =
            λ i l k.
            subst RainsUnder (sym (stepped-rains t input s full b.elements_most i l k))
            (shifted-under (input i).rain _ (rain i l) (before.rains i l k));
      }

  pub stepped-fits : state_fits t (stepped t input s) ≡ true
  stepped-fits = bounds-fit t _ b stepped-bounds

-- what the rules give of an accepted step, and the state that it leaves
pub record Stepping (t : TableValues) (bytes : List ℕ) (s : State) : Type 0 where
  pub fits : state_fits t s ≡ true
  pub left : steps_left s ≡ true
  pub kept : record_rules {A = Unit} t bytes (accepted tt) ≡ accepted tt
  pub under : Under (step_numbers t (input_at (cells t) bytes) s)

pub stepping-on :
    (t : TableValues) (bytes : List ℕ) (s next : State)
    → step_on_answer t bytes s ≡ accepted next
    → Stepping t bytes s × (next ≡ stepped t (input_at (cells t) bytes) s)
unfolding step_rules step_on_answer
stepping-on t bytes s next h =
    let b = rule-kept 8 (state_fits t s) _ h in
    let c = rule-kept 9 (steps_left s) _ b.1 in
    let d = record-laws.record-kept t bytes _ c.1 in
    let e = under-kept (step_numbers t (input_at (cells t) bytes) s) (stepped t (input_at (cells t) bytes) s) d.1 in
    (record { fits = b.0; left = c.0; kept = d.0; under = e.1 }, e.0)

-- document 01, rule 8: a state that a step left is never refused
module _ (t : TableValues) (bytes : List ℕ) (s next : State) (b : TableBounds (cells t)) (full : length s ≡ state_numbers) where
  pub next_fits : step_on_answer t bytes s ≡ accepted next → state_fits t next ≡ true
  next_fits h =
      let k = stepping-on t bytes s next h in
      rw k.1
      (stepped-fits t (input_at (cells t) bytes) s b full k.0.fits k.0.left
      (λ i l. (record-laws.inputs-fit (cells t) bytes b.gauge (cells-kept t bytes k.0.kept) i l).rain) k.0.under)

  -- it is as long as before
  pub next-length : step_on_answer t bytes s ≡ accepted next → length next ≡ state_numbers
  next-length h = rw (stepping-on t bytes s next h).1 (stepped-length t (input_at (cells t) bytes) s ∙ full)

  -- and so with the state that an entry leaves after a step that it accepts
  pub answered-fits : (v : Result Unit Refusal) → Answered v next (step_on_answer t bytes s) s → v ≡ Ok tt → state_fits t next ≡ true
  answered-fits v h e = next_fits (answered-next v next _ s h e)

-- ---- the start

module _ (t : TableValues) (s : State) (b : TableBounds (cells t)) (full : length s ≡ state_numbers) where
  first_fits : (i : ℕ) → i < (cells t).elements → FiguresFit (first_figures ((cells t).element i))
  unfolding first_figures
  first_fits i l =
      let e = b.element i l in
      record { discharge = e.first_discharge; discharge_margin = omega arith; variance = e.first_variance; variance_margin = omega arith }

  started-bounds : StateBounds t (started t s)
  started-bounds =
      record {
        elements = started-elements t s full b.elements_most;
        steps = omega (arith, started-steps t s full b.elements_most);
        figures = λ i l. subst FiguresFit (sym (started-figures t s full b.elements_most i l)) (first_fits i l);
        rains =
            λ i l k.
            subst RainsUnder (sym (started-rains t s full b.elements_most i l k))
            (record { first = omega arith; second = omega arith; third = omega arith });
      }

  -- document 01, rule 8: a state that a start left is never refused
  pub started-fits : state_fits t (started t s) ≡ true
  started-fits = bounds-fit t _ b started-bounds
