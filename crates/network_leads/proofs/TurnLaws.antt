-- The turn of one element in the code of a forecast: its figures put at lead 0, what its leads are worked out from, and what is then held, of an
-- element that is no tanks.
use Rattle.std.specs.Prelude.{Result, Ok, Err, Option, Some, IsErrAnd}
use Rattle.std.proofs.lemmas.Result.{err_from_is_err_and}
use Prim.{Unit}
use Prim.Native.Nat.{ℕ, suc, ◌+◌, ◌*◌, ◌≤◌, ◌<◌}
use mathlib.Core.List.{List, [], ◌∷◌}
use mathlib.Core.Logic.{◌≢◌}
use mathlib.Core.Path.{◌≡◌, refl, sym, ap, subst, ◌∙◌}
use native.Mathlib.Nat.{mul-le-mul_right}
use native.Mathlib.Omega.{arith}
use lib.ListN.{length, get_or}
use Rattle.sizes.specs.Sizes.{most_leads, forecast_places}
use Rattle.refusal.specs.Answers.{refused, answer_of}
use Rattle.refusal.specs.declared.Refusal.{Refusal}
use Rattle.units.specs.Units.{C, S}
use Rattle.units.specs.Ceiling.{some_passes, under_ceiling}
use Rattle.units.proofs.UnderLaws.{Under, refused-whole, refused-part}
use Rattle.method.specs.declared.Figures.{Figures}
use Rattle.method.specs.Figures.{FiguresFit}
use Rattle.elements.specs.declared.Element.{Element}
use Rattle.elements.specs.Elements.{element_at}
use Rattle.elements.specs.Kinds.{tanks, extra_tanks, same_kind}
use mathlib.Core.Bool.{Bool, true, false}
use Rattle.elements.specs.Bounds.{AcceptedElement}
use Rattle.table.specs.Tables.{TableValues}
use Rattle.table.specs.KindCounts.{extra_before}
use Rattle.table.specs.InUse.{table_in}
use Rattle.table.proofs.InUseLaws.{element-read}
use Rattle.table.proofs.CountLaws.{extra-more}
use Rattle.cells.specs.Cells.{last_cell, cells}
use Rattle.cells.proofs.CellLaws.{last-place}
use Rattle.state.specs.States.{State, steps_of, figures_of}
use Rattle.network.specs.Step.{no_observation}
use Rattle.network.specs.Forecast.{rain_count, lead_figures, lead_numbers}
use Rattle.answer_space.specs.Places.{put}
use Rattle.answer_space.proofs.PlacesLaws.{put-length}
use Rattle.one_lead.specs.declared.ElementInput.{ElementInput}
use Rattle.one_lead.specs.Worked.{InputInRange}
use Rattle.lead_walk.proofs.NetworkLaws.{InputOf}
use Rattle.network.proofs.NumbersLaws.{lead_own}
use Rattle.tank_walk.specs.Rows.{IsLast, own_row}
use Rattle.lead_walk.specs.Worked.{LeadsReady, ElementWorked}
use Rattle.tank_walk.proofs.ForecastLaws.{Ready, ready-one, ready-small, last_under, forecast-again}
use Rattle.element_weights.specs.Weights.{element_weight}
use Rattle.element_weights.proofs.WeightsLaws.{weight-held}
use Rattle.network_leads.specs.Inputs.{lead_input}
use Rattle.network_leads.specs.Worked.{Given, spare_rows, space_size, LeadsSoFar, LeadsPass, RunReady, RunWorked}
use Rattle.network_leads.proofs.InputLaws.{figures-fit, input-in-range, input-of}
use Rattle.network_leads.proofs.WorkLaws.{space_most, all_room, places-apart, worked-first, first-stays}
use Rattle.elements.proofs.KindLaws.{ne-same, same-true, same-false}

pub first-is : (t : TableValues) (s : State) (i : ℕ) (f : Figures) → i < t.elements → f ≡ figures_of s i → f ≡ lead_figures t s 0 (last_cell t i)
unfolding lead_figures
first-is t s i f l e = e ∙ ap (figures_of s) (sym (last-place t i l))

-- 16 of the whole, where it cannot be under the ceiling
pub passes : (t : TableValues) (s : State) (leads : ℕ) → (Under (lead_numbers t s leads) → ⊥) → refused 16 ≡ under_ceiling {A = Unit} (lead_numbers t s leads) tt
unfolding under_ceiling some_passes
passes t s leads h = refused-whole tt (suc C ∷ []) (lead_numbers t s leads) (λ u. absurd (h u)) refl

-- what the input says of the element
made-element : (e : Element) (weight count : ℕ) (s : State) (i : ℕ) (c : ElementInput) → c ≡ lead_input e weight count s i → c.element ≡ e
unfolding lead_input
made-element e weight count s i c h = ap (λ (x : ElementInput). x.element) h

-- the rows of the space
module _ (t : TableValues) (L : ℕ) (all : L ≡ t.leads) (space : List Figures) (room : space_size t ≤ length space) where
  pub row-there : (k : ℕ) → k ≤ t.elements + spare_rows t → k * (L + 1) + (L + 1) ≤ length space
  row-there k l =
      all_room t.elements (spare_rows t) k (L + 1) l
      (subst (λ (n : ℕ). (t.elements + 1 + spare_rows t) * (n + 1) ≤ length space) (sym all) room)

module _ {bytes : List ℕ} {n L : ℕ} {weight : List ℕ} {s : State} (g : Given bytes n L weight s) where
  abbrev t : TableValues
  t = table_in bytes

  abbrev w : ℕ
  w = L + 1

  pub few-leads : L ≤ most_leads
  few-leads = rw g.leads g.table.bounds.leads_most

  pub places-there : (space : List Figures) → space_size t ≤ length space → (k : ℕ) → k ≤ t.elements → k * w + w ≤ length space
  places-there space room k l = row-there t L g.leads space room k (omega (arith, l))

  -- element i, no tanks, as the code has it once its figures f are put: the space before and after that, its weight H, the count of rains, and
  -- the input c
  pub record Turn (i : ℕ) (before : List Figures) (f : Figures) (space : List Figures) (H count : ℕ) (c : ElementInput) : Type 0 where
    pub used : i < t.elements
    pub single : (element_at bytes i).kind ≢ tanks
    pub room : space_size t ≤ length before
    pub worked : LeadsSoFar t s L i i before
    pub first : f ≡ figures_of s i
    pub placed : space ≡ put before ((i + 1) * w) f
    pub weighed : (H ≡ element_weight t i) × (H ≤ S)
    pub few : count ≡ rain_count (steps_of s)
    pub made : c ≡ lead_input (element_at bytes i) H count s i

  module _ {i : ℕ} {before : List Figures} {f : Figures} {space : List Figures} {H count : ℕ} {c : ElementInput} (h : Turn i before f space H count c) where
    abbrev used : i < t.elements
    used = h.used

    abbrev is : f ≡ lead_figures t s 0 (last_cell t i)
    is = first-is t s i f used h.first

    own_room : ((i + 1) * w) < length before
    own_room = omega (arith, places-there before h.room (i + 1) (omega (arith, used)))

    length-kept : length space ≡ length before
    length-kept = rw h.placed (put-length before ((i + 1) * w) f)

    now-there : (k : ℕ) → k ≤ t.elements → k * w + w ≤ length space
    now-there k l = omega (arith, places-there before h.room k l, length-kept)

    held : LeadsSoFar t s L (i + 1) i space
    held =
        subst (LeadsSoFar t s L (i + 1) i) (sym h.placed)
        (worked-first t s L i before h.worked f is own_room)

    element-is : c.element ≡ element_at bytes i
    element-is = made-element _ _ _ _ _ c h.made

    down_is : c.element.down ≡ (t.element i).down
    down_is = ap (λ (x : Element). x.down) (element-is ∙ sym (element-read bytes i used))

    bounds : AcceptedElement t.step t.elements i (t.element i)
    bounds = g.table.bounds.element i used

    no_extra : extra_tanks (t.element i) ≡ 0
    unfolding extra_tanks
    no_extra = rw (element-read bytes i used, ne-same (element_at bytes i).kind tanks h.single)

    pub no_more : extra_before t (i + 1) ≡ extra_before t i
    no_more = omega (arith, extra-more t i refl refl, no_extra)

    ready : Ready t s L i space
    ready = ready-one t s L i used bounds.later bounds.down no_extra held.walked

    -- the first place of the element below
    pub below-most : c.element.down * w ≤ forecast_places
    below-most =
        let d : c.element.down ≤ t.elements = rw down_is bounds.down in
        omega (arith, mul-le-mul_right w d, space_most t.elements 0 L g.table.bounds.elements_most (omega arith) few-leads)

    -- what the leads of the element are worked out from is ready
    pub turn-ready : LeadsReady c f ((i + 1) * w + 1) (c.element.down * w + 1) L space
    unfolding lead_input
    turn-ready =
        subst (λ (d : ℕ). LeadsReady c f ((i + 1) * w + 1) (d * w + 1) L space) (sym down_is)
        (record {
          nothing = ap (λ (x : ElementInput). x.observation) h.made;
          in_range =
              subst InputInRange (sym h.made)
              (input-in-range bytes g.table used _ _ _ h.single h.weighed.1 g.state);
          fits = subst FiguresFit (sym h.first) (figures-fit bytes g.table used s g.state);
          places = record {
            short = few-leads;
            here_room = omega (arith, now-there (i + 1) (omega (arith, used)));
            below_room = omega (arith, now-there (t.element i).down bounds.down);
            apart = places-apart L i _ bounds.later;
            small = ready-small t s L i used bounds.later bounds.down g.table.bounds.places_most ready;
          };
        })

    module _ (v : Result Unit Refusal) (after : List Figures) (done : ElementWorked v c f ((i + 1) * w + 1) (c.element.down * w + 1) L space after) where
      worked : ElementWorked v c f ((i + 1) * w + 1) ((t.element i).down * w + 1) L space after
      worked = subst (λ (d : ℕ). ElementWorked v c f ((i + 1) * w + 1) (d * w + 1) L space after) down_is done

      of : InputOf (cells t) (lead_own t s) no_observation (lead_figures t s) w 1 (IsLast t) (own_row t) c (last_cell t i) L
      of =
          subst (λ (x : ElementInput). InputOf (cells t) (lead_own t s) no_observation (lead_figures t s) w 1 (IsLast t) (own_row t) x (last_cell t i) L)
          (sym h.made) (input-of bytes s i used h.single _ count L w h.weighed.0 h.few)

      -- a number passes at this element
      pub turn-refused : {j : Refusal} → v ≡ Err j → LeadsPass j t s L
      turn-refused e =
          refused-part tt _ (lead_numbers t s L) (last_under t s L i used bounds.later bounds.down c of f is ready)
          (sym (ap answer_of e) ∙ worked.verdict)

      pub turn-again : v ≡ (Ok tt) → LeadsSoFar t s L (i + 1) (i + 1) after
      turn-again e =
          record {
            walked = forecast-again t s L i used bounds.later bounds.down c of f is ready (worked.done e);
            first = λ k l. first-stays t s L i (t.element i).down (worked.done e) k ∙ held.first k l;
          }

-- ---- a run

-- what its loop holds: the elements from one on to another are worked out, none of them tanks
pub record RunSoFar (t : TableValues) (s : State) (L from i : ℕ) (begun : List Figures) (space : List Figures) : Type 0 where
  pub later : from ≤ i
  pub few : i ≤ t.elements
  pub single : extra_before t i ≡ extra_before t from
  pub size : length space ≡ length begun
  pub held : LeadsSoFar t s L i i space

module _ {bytes : List ℕ} {n L : ℕ} {weight : List ℕ} {s : State} {from i : ℕ} {begun : List Figures} {before : List Figures}
    (g : Given bytes n L weight s) (r : RunReady (table_in bytes) s L from begun) (h : RunSoFar (table_in bytes) s L from i begun before) where
  abbrev river : TableValues
  river = table_in bytes

  module _ (left : i < n) where
    here : i < river.elements
    here = omega (arith, left, g.elements)

    -- the next is one of tanks
    pub run-tanks : {test : Bool} → test ≡ same_kind (element_at bytes i).kind tanks → test ≡ true → RunWorked (Ok (Some i)) river s L from before
    unfolding RunWorked
    run-tanks e tested =
        record {
          later = h.later;
          used = here;
          kind = ap (λ (e : Element). e.kind) (element-read bytes i here) ∙ same-true _ _ (sym e ∙ tested);
          single = h.single;
          held = h.held;
        }

    -- what is known at its turn, where it is none
    pub run-turn :
        {test : Bool} {f : Figures} {space : List Figures} {count : ℕ} {c : ElementInput}
        → test ≡ same_kind (element_at bytes i).kind tanks
        → test ≡ false
        → f ≡ figures_of s i
        → space ≡ put before ((i + 1) * (L + 1)) f
        → count ≡ rain_count (steps_of s)
        → c ≡ lead_input (element_at bytes i) (get_or weight i 0) count s i
        → Turn g i before f space (get_or weight i 0) count c
    run-turn e tested first placed few made =
        record {
          used = here;
          single = same-false _ _ (sym e ∙ tested);
          room = omega (arith, r.room, h.size);
          worked = h.held;
          first = first;
          placed = placed;
          weighed = weight-held g.weights i here;
          few = few;
          made = made;
        }

  -- some number passes, and its refusal is passed on
  pub run-passed :
      (space : List Figures) (v : Result (Option ℕ) Refusal) (k : Refusal)
      → LeadsPass k river s L
      → IsErrAnd v (λ (e : Refusal). e ≡ k)
      → RunWorked v river s L from space
  unfolding RunWorked
  run-passed space v k above passed = let q = err_from_is_err_and v passed in rw (q.1, q.2) above

  -- the next turn
  pub run-again :
      {f : Figures} {space after : List Figures} {H count : ℕ} {c : ElementInput} {v : Result Unit Refusal}
      (turn : Turn g i before f space H count c)
      → ElementWorked v c f ((i + 1) * (L + 1) + 1) (c.element.down * (L + 1) + 1) L space after
      → v ≡ (Ok tt)
      → length after ≡ length space
      → RunSoFar river s L from (i + 1) begun after
  run-again {space = space} turn done e size =
      let kept : length space ≡ length before = rw turn.placed (put-length before ((i + 1) * (L + 1)) _) in
      record {
        later = omega (arith, h.later);
        few = omega (arith, turn.used);
        single = no_more g turn ∙ h.single;
        size = omega (arith, size, kept, h.size);
        held = turn-again g turn _ _ done e;
      }
