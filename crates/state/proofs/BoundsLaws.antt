-- What rule 8 gives of a state that it accepts, and what it asks.
use Prim.Native.Nat.{ℕ, ◌+◌, ◌≤◌, ◌<◌}
use mathlib.Core.Bool.{true, ◌&&◌}
use mathlib.Core.Path.{◌≡◌, sym, ap, ◌∙◌}
use borrow.Author.Tests.{leb-true, eqb-true}
use lib.Dec.{leb, eqb}
use Rattle.units.specs.Units.{C}
use Rattle.method.specs.declared.Figures.{Figures}
use Rattle.method.specs.Figures.{FiguresFit}
use Rattle.fields.proofs.RangeLaws.{both, all_three, all-four, all-at}
use Rattle.std.specs.Prelude.{Option, Some, None}
use Rattle.elements.specs.declared.Kind.{Kind}
use Rattle.elements.specs.declared.Kind.TheVariants.{Basin, Reach, Dam, Tanks}
use Rattle.elements.specs.declared.Element.{Element}
use Rattle.elements.specs.Kinds.{basin, by_kind, same_kind}
use Rattle.table.specs.Tables.{TableValues}
use Rattle.table.specs.KindCounts.{extra_count}
use Rattle.cells.specs.Cells.{cell_at, cells}
use Rattle.cells.proofs.CellLaws.{Cell, last, inner, cell-of, last-place, inner-at, last-basin, inner-kind, cell-used}
use Rattle.state.specs.declared.Rains.{Rains}
use Rattle.state.specs.States.{State, ElementState, elements_of, steps_of, figures_of, cell_figures, cell_rains, place_of}
use Rattle.state.specs.Rules.{figures_fit, rains_fit, place_fits, elements_fit, tanks_fit, state_fits}
use Rattle.state.specs.Bounds.{RainsUnder, StateBounds}

figures-under : (f : Figures) → figures_fit f ≡ true → FiguresFit f
unfolding figures_fit
figures-under f k =
    let a = all-four (leb f.discharge.0 C) (leb f.discharge_margin.0 C) (leb f.variance.0 C) (leb f.variance_margin.0 C) k in
    record {
      discharge = leb-true _ _ a.0;
      discharge_margin = leb-true _ _ a.1.0;
      variance = leb-true _ _ a.1.1.0;
      variance_margin = leb-true _ _ a.1.1.1;
    }

rains-under : (r : Rains) → rains_fit r ≡ true → RainsUnder r
unfolding rains_fit
rains-under r k =
    let a = all_three (leb r.first 3000) (leb r.second 3000) (leb r.third 3000) k in
    record { first = leb-true _ _ a.0; second = leb-true _ _ a.1.0; third = leb-true _ _ a.1.1 }

-- of one place
module _ (kind : Option Kind) (p : ElementState) where
  basin-place : kind ≡ basin → place_fits kind p ≡ (figures_fit p.figures && rains_fit p.rains)
  unfolding place_fits same_kind by_kind
  basin-place k = rw k

  -- whatever its kind, its figures fit
  figures-first : place_fits kind p ≡ true → figures_fit p.figures ≡ true
  unfolding place_fits same_kind by_kind
  figures-first h = go kind h
    where
      go : (k : Option Kind) → place_fits k p ≡ true → figures_fit p.figures ≡ true
      go (Some Basin) e = (both (figures_fit p.figures) _ e).0
      go (Some Reach) e = e
      go (Some Dam) e = e
      go (Some Tanks) e = e
      go None e = cc

  module _ (h : place_fits kind p ≡ true) where
    place-figures : FiguresFit p.figures
    place-figures = figures-under _ (figures-first h)

    place-rains : kind ≡ basin → RainsUnder p.rains
    place-rains k =
        rains-under _
        (both (figures_fit p.figures) _
        (sym (basin-place k) ∙ h)).1

module _ (t : TableValues) (s : State) (h : state_fits t s ≡ true) where
  -- what the test says of each element's place, and of each tank's after them
  record Tested : Type 0 where
    pub elements : elements_of s ≡ t.elements
    pub steps : steps_of s ≤ 10000
    pub place : (i : ℕ) → i < t.elements → place_fits (t.element i).kind (place_of s i) ≡ true
    pub tank : (x : ℕ) → x < extra_count t → figures_fit (figures_of s (t.elements + x)) ≡ true

  tested : Tested
  unfolding state_fits elements_fit tanks_fit
  tested =
      let h* = both (elements_fit t s) (tanks_fit t s) h in
      let a = all_three (eqb (elements_of s) t.elements) (leb (steps_of s) 10000) _ h*.0 in
      record {
        elements = eqb-true _ _ a.0;
        steps = leb-true _ _ a.1.0;
        place = λ i l. all-at (λ k. place_fits (t.element k).kind (place_of s k)) _ i l a.1.1;
        tank = λ x l. all-at (λ k. figures_fit (figures_of s (t.elements + k))) _ x l h*.1;
      }

  figures-at : (c : ℕ) → Cell t c → FiguresFit (cell_figures t s c)
  unfolding place_of
  figures-at c (last i l e) = rw (e, last-place t i l) (place-figures _ (place_of s i) (tested.place i l))
  figures-at c (inner i g n) =
      let p = inner-at t g n in rw p.is (figures-under _ (tested.tank p.tank p.few))

  rains-at : (c : ℕ) → Cell t c → (cell_at t c).kind ≡ basin → RainsUnder (cell_rains t s c)
  unfolding place_of
  rains-at c (last i l e) k =
      rw (e, last-place t i l) (place-rains _ (place_of s i) (tested.place i l) (last-basin t i l (ap (λ (d : ℕ). (cell_at t d).kind) (sym e) ∙ k)))
  rains-at c (inner i g n) k = cc (inner-kind t g n)

pub state-bounds : (t : TableValues) (s : State) → state_fits t s ≡ true → StateBounds t s
unfolding cells
state-bounds t s h =
    record {
      elements = (tested t s h).elements;
      steps = (tested t s h).steps;
      figures = λ c l. figures-at t s h c (cell-of t c l);
      rains = λ c l k. rains-at t s h c (cell-of t c l) (ap (λ (e : Element). e.kind) (sym (cell-used t c l)) ∙ k);
    }
