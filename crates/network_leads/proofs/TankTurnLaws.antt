-- The turn of an element of tanks in the code of a forecast: the figures of its last put at lead 0, the tanks above it, and the last.
use Prim.{Unit}
use Rattle.std.specs.Prelude.{Result, Ok, Err, None, IsErrAnd}
use Rattle.std.proofs.lemmas.Result.{err_from_is_err_and}
use Rattle.refusal.specs.Answers.{answer_of}
use Prim.Native.Nat.{ℕ, ◌+◌, ◌*◌, ◌-◌, ◌≤◌, ◌<◌}
use mathlib.Core.List.{List}
use mathlib.Core.Logic.{◌≢◌, ⊎_elim, inl, inr}
use mathlib.Core.Path.{◌≡◌, refl, sym, ap, subst, ◌∙◌}
use native.Mathlib.Nat.{mul-le-mul_right, eq-or-lt_of_le}
use native.Mathlib.Decide.{dec_le}
use native.Mathlib.Omega.{arith}
use lib.ListN.{length, get_or}
use Rattle.sizes.specs.Sizes.{most_elements, most_places, most_leads, forecast_places}
use Rattle.refusal.specs.declared.Refusal.{Refusal}
use Rattle.units.proofs.UnderLaws.{refused-part}
use Rattle.method.specs.declared.Figures.{Figures}
use Rattle.method.specs.Figures.{FiguresFit}
use Rattle.elements.specs.declared.Element.{Element}
use Rattle.elements.specs.Elements.{element_at}
use Rattle.elements.specs.Kinds.{tanks, extra_tanks}
use Rattle.elements.specs.Bounds.{AcceptedElement}
use Rattle.table.specs.Tables.{TableValues}
use Rattle.table.specs.KindCounts.{extra_before, extra_count}
use Rattle.table.specs.InUse.{table_in}
use Rattle.table.proofs.InUseLaws.{element-read}
use Rattle.table.proofs.CountLaws.{extra-none, extra-rise, extra-more, extra-read}
use Rattle.table.proofs.HeldLaws.{element-there, tanks-known}
use Rattle.cells.specs.Cells.{first_cell, last_cell, cells}
use Rattle.cells.proofs.CellLaws.{last-is, last-in-use}
use Rattle.record.specs.Decoded.{ObservationFits}
use Rattle.state.specs.States.{State, figures_of}
use Rattle.network.specs.Step.{weight_of, no_observation}
use Rattle.network.specs.Forecast.{lead_figures, lead_numbers}
use Rattle.answer_space.specs.Places.{figures_at, put}
use Rattle.answer_space.proofs.PlacesLaws.{put-length}
use Rattle.one_lead.specs.Worked.{tank_input}
use Rattle.lead_walk.proofs.NetworkLaws.{InputOf}
use Rattle.network.proofs.NumbersLaws.{lead_own}
use Rattle.tank_walk.specs.Rows.{IsLast, own_row}
use Rattle.lead_walk.specs.Worked.{Apart, TankReady, ElementWorked}
use Rattle.tank_walk.specs.declared.TankPlaces.{TankPlaces}
use Rattle.tank_walk.specs.Tanks as tank-specs
use Rattle.tank_walk.specs.Tanks.{tank_place, TanksThere, TanksOpened}
use Rattle.tank_walk.proofs.RowLaws.{tank_row, tank-place, tank-last, tank-inner}
use Rattle.tank_walk.proofs.TankLaws.{tanks-16}
use Rattle.tank_walk.proofs.ForecastLaws.{tank-first, Ready, ready-tanks, tanks-pass, ready-small, last_under, forecast-again}
use Rattle.element_weights.proofs.WeightsLaws.{weight-held, tank-weight}
use Rattle.network_leads.specs.Worked.{Given, Cleared, spare_rows, LeadsSoFar, LeadsPass, TanksReady, TanksNext, TanksDone}
use Rattle.network_leads.proofs.InputLaws.{figures-fit, last-tank-input}
use Rattle.network_leads.proofs.WorkLaws.{space_most, places-apart, worked-begin, worked-first, first-stays, tanks-stay}
use Rattle.network_leads.proofs.TurnLaws.{first-is, passes, row-there}
use Rattle.elements.proofs.KindLaws.{eq-same}

-- as the code has it once the figures f of its last are put
module _
    {bytes : List ℕ} {n i x L H : ℕ} {s : State} {before : List Figures} (g : TanksReady bytes n i x L H s before) where
  abbrev t : TableValues
  t = table_in bytes

  abbrev w : ℕ
  w = L + 1

  abbrev extra : ℕ
  extra = extra_tanks (t.element i)

  used : i < t.elements
  used = omega (arith, g.used, g.elements)

  bounds : AcceptedElement t.step t.elements i (t.element i)
  bounds = g.table.bounds.element i used

  -- how many tanks stand above the last
  extra-is : extra ≡ (t.element i).runoff - 1
  unfolding extra_tanks
  extra-is = rw (eq-same (t.element i).kind tanks g.kind)

  pub some : (0 < extra) × (extra ≤ 7)
  some = let b = bounds.tanks g.kind in (omega (arith, b, extra-is), omega (arith, b, extra-is))

  few-leads : L ≤ most_leads
  few-leads = rw g.leads g.table.bounds.leads_most

  all-extra : extra_before t i + extra ≤ extra_count t
  all-extra =
      omega (arith, extra-more t i refl refl, extra-rise t (i + 1) t.elements (omega (arith, used)))

  spare : extra ≤ spare_rows t
  spare = omega (arith, some, all-extra)

  before-there : (k : ℕ) → k ≤ t.elements + spare_rows t → k * w + w ≤ length before
  before-there k l = row-there t L g.leads before g.room k l

  -- all rows are below the largest space
  row-most : (k : ℕ) → k ≤ t.elements + spare_rows t → k * w ≤ forecast_places
  row-most k l =
      let m : k ≤ t.elements + 1 + 7 = omega (arith, l) in
      omega (arith, mul-le-mul_right w m, space_most t.elements 7 L g.table.bounds.elements_most (omega arith) few-leads)

  pub own-most : (i + 1) * w ≤ forecast_places
  own-most = row-most (i + 1) (omega (arith, used))

  pub own-there : ((i + 1) * w) < length before
  own-there = omega (arith, before-there (i + 1) (omega (arith, used)))

  pub first-most : (n + 1) * w ≤ forecast_places
  first-most = rw g.elements (row-most (t.elements + 1) (omega (arith, some, spare)))

  pub below-most : {d : ℕ} → d ≡ (element_at bytes i).down → d * w ≤ forecast_places
  below-most q =
      rw (q ∙ ap (λ (y : Element). y.down) (sym (element-read bytes i used))) (row-most (t.element i).down (omega (arith, bounds.down)))

  pub tank-known : ((i ≤ 1000) × (26 * i + 36 ≤ length bytes)) × (1 ≤ (element_at bytes i).runoff)
  tank-known =
      (element-there bytes g.table used, omega (arith, tanks-known bytes g.table used (sym (ap (λ (y : Element). y.kind) (element-read bytes i used)) ∙ g.kind)))

  module _ {f : Figures} {space : List Figures} (first : f ≡ figures_of s i) (placed : space ≡ put before ((i + 1) * (L + 1)) f) where
    is : f ≡ lead_figures t s 0 (last_cell t i)
    is = first-is t s i f used first

    length-kept : length space ≡ length before
    length-kept = rw placed (put-length before ((i + 1) * w) f)

    there : (k : ℕ) → k ≤ t.elements + spare_rows t → k * w + w ≤ length space
    there k l = omega (arith, before-there k l, length-kept)

    held : LeadsSoFar t s L (i + 1) i space
    held =
        subst (LeadsSoFar t s L (i + 1) i) (sym placed)
        (worked-first t s L i before g.held f is (omega (arith, before-there (i + 1) (omega (arith, used)))))

    module _ {noise : ℕ} (noisy : noise ≡ (element_at bytes i).system_noise.0) where
      noise-is : noise ≡ (t.element i).system_noise.0
      noise-is = noisy ∙ ap (λ (e : Element). e.system_noise.0) (sym (element-read bytes i used))

      inner-weight : (j : ℕ) → j < extra → H ≡ weight_of (cells t) (first_cell t i + j)
      inner-weight j l =
          g.weighed.0
          ∙ sym (tank-weight t i (first_cell t i + j) (record { used = used; from = omega arith; to = omega (arith, l, last-is t i) }) (omega (arith, l, last-is t i)))

      abbrev places : TankPlaces
      places = record { own = (i + 1) * w + 1; first = (n + 1) * w + 1; width = w; leads = L }

      places_same : places ≡ record { own = (i + 1) * w + 1; first = (t.elements + 1) * w + 1; width = w; leads = L }
      places_same = ap (λ (m : ℕ). record { own = (i + 1) * w + 1; first = (m + 1) * w + 1; width = w; leads = L }) g.elements

      place-row : (j : ℕ) → tank_place places extra j ≡ tank_row (t.elements + 1) (i + 1) extra j * w + 1
      place-row j = ap (λ (p : TankPlaces). tank_place p extra j) places_same ∙ tank-place (t.elements + 1) (i + 1) extra w 1 L j

      row-few : (j : ℕ) → j ≤ extra → tank_row (t.elements + 1) (i + 1) extra j ≤ t.elements + spare_rows t
      row-few j l =
          ⊎_elim
          (λ (e : j ≡ extra). omega (arith, used, ap (tank_row (t.elements + 1) (i + 1) extra) e, tank-last (t.elements + 1) (i + 1) extra))
          (λ m. omega (arith, spare, m, tank-inner (t.elements + 1) (i + 1) extra j m)) (eq-or-lt_of_le l)

      rows_apart : (a b : ℕ) → a ≢ b → Apart (a * w + 1) (b * w + 1) L
      rows_apart a b n = go (dec_le (a + 1) b) (dec_le (b + 1) a)
        where
          go : Dec (a + 1 ≤ b) → Dec (b + 1 ≤ a) → Apart (a * w + 1) (b * w + 1) L
          go (yes h) d = inl (omega (arith, mul-le-mul_right w h))
          go (no h) (yes k) = inr (omega (arith, mul-le-mul_right w k))
          go (no h) (no k) = absurd (n (omega arith))

      next-other : (j : ℕ) → j < extra → tank_row (t.elements + 1) (i + 1) extra j ≢ tank_row (t.elements + 1) (i + 1) extra (j + 1)
      next-other j l q =
          ⊎_elim
          (λ (e : j + 1 ≡ extra). omega (arith, q, used, ap (tank_row (t.elements + 1) (i + 1) extra) e, tank-last (t.elements + 1) (i + 1) extra, tank-inner (t.elements + 1) (i + 1) extra j l))
          (λ m. omega (arith, q, tank-inner (t.elements + 1) (i + 1) extra (j + 1) m, tank-inner (t.elements + 1) (i + 1) extra j l)) (eq-or-lt_of_le (omega (arith, l)))

      tanks-there : TanksThere places extra space
      tanks-there =
          record {
            short = few-leads;
            some = some.0;
            extra_few = some.1;
            few = λ j l. rw g.elements (omega (arith, row-most (t.elements + 1 + j) (omega (arith, l, spare))));
            room = λ j l. rw (place-row j) (omega (arith, there _ (row-few j l)));
            apart = λ j l. rw (place-row j, place-row (j + 1)) (rows_apart _ _ (next-other j l));
            moved = rows_apart (i + 1) (n + 1) (λ q. omega (arith, q, g.used));
          }

      -- what the code of its tanks relies on
      pub open-ready : {e : ℕ} → e ≡ (element_at bytes i).runoff - 1 → tank-specs.TanksReady noise H e x 0 places s space
      unfolding lead_figures
      open-ready {e} read =
          rw same
          (record {
            there = tanks-there;
            places = omega (arith, g.places, g.elements, all-extra, g.table.bounds.places_most);
            tank = omega arith;
            system_noise = omega (arith, noise-is, bounds.system_noise);
            weighed = g.weighed.1;
            fits = λ k l. rw (g.places, g.elements, tank-first t i k used l s) (g.state.figures (first_cell t i + k) (omega (arith, l, last-is t i, last-in-use t i used)));
          })
        where
          same : e ≡ extra
          same = read ∙ (ap (λ (y : Element). y.runoff - 1) (sym (element-read bytes i used)) ∙ sym extra-is)

      module _ {r : Result Unit Refusal} {worked : List Figures} {e : ℕ} (read : e ≡ (element_at bytes i).runoff - 1) (opened : TanksOpened r noise H e x places s space worked) where
        opened-at :
            TanksOpened r noise H extra (t.elements + extra_before t i)
            (record { own = (i + 1) * w + 1; first = (t.elements + 1) * w + 1; width = w; leads = L }) s space worked
        opened-at =
            subst (λ (p : TankPlaces). TanksOpened r noise H extra (t.elements + extra_before t i) p s space worked) places_same
            (subst (λ (k : ℕ). TanksOpened r noise H extra k places s space worked) (g.places ∙ ap (λ (m : ℕ). m + extra_before t i) g.elements)
            (subst (λ (k : ℕ). TanksOpened r noise H k x places s space worked)
            (read ∙ (ap (λ (y : Element). y.runoff - 1) (sym (element-read bytes i used)) ∙ sym extra-is)) opened))

        -- a number passes in one of them, and its refusal is passed on
        pub tanks-above :
            {answer : Result Unit Refusal} {k : Refusal} {after : List Figures}
            → r ≡ Err k
            → IsErrAnd answer (λ (e : Refusal). e ≡ k)
            → TanksDone answer t s L i after
        tanks-above {answer} {k} a passed =
            let q = err_from_is_err_and answer passed in
            let passes : LeadsPass k t s L
            = rw (tanks-16 opened-at.worked a)
            (passes t s L (tanks-pass t s L i used bounds.later bounds.down noise H noise-is inner-weight some.0 held.walked opened-at a)) in
            rw (q.1, q.2) (record { done = λ e. cc; above = λ j e. let same : k ≡ j = cc in rw (← same) passes })

        module _ (a : r ≡ (Ok tt)) where
          ready : Ready t s L i worked
          ready = ready-tanks t s L i used bounds.later bounds.down noise H noise-is inner-weight some.0 held.walked opened-at a

          down_is : {d : ℕ} → d ≡ (element_at bytes i).down → d ≡ (t.element i).down
          down_is q = q ∙ ap (λ (y : Element). y.down) (sym (element-read bytes i used))

          pub last-ready :
              {d : ℕ}
              → d ≡ (element_at bytes i).down
              → length worked ≡ length space
              → TankReady (tank_input noise H None) f ((i + 1) * w + 1) (d * w + 1) L worked
          unfolding ObservationFits
          last-ready {d} q size =
              subst (λ (k : ℕ). TankReady (tank_input noise H None) f ((i + 1) * w + 1) (k * w + 1) L worked) (sym (down_is q))
              (record {
                in_range = record {
                  element = record { kind = inr (inl refl); system_noise = omega (arith, noise-is, bounds.system_noise); rain_noise = omega arith };
                  weight = g.weighed.1;
                  first_lead = omega arith;
                  release = λ k. omega arith;
                  observation = tt;
                };
                fits = subst FiguresFit (sym first) (figures-fit bytes g.table used s g.state);
                places = record {
                  short = few-leads;
                  here_room = omega (arith, size, there (i + 1) (omega (arith, used)));
                  below_room = omega (arith, size, there (t.element i).down (omega (arith, bounds.down)));
                  apart = places-apart L i _ bounds.later;
                  small = ready-small t s L i used bounds.later bounds.down g.table.bounds.places_most ready;
                };
              })

          of : InputOf (cells t) (lead_own t s) no_observation (lead_figures t s) w 1 (IsLast t) (own_row t) (tank_input noise H None) (last_cell t i) L
          of = last-tank-input t s i used g.kind noise H L w noise-is g.weighed.0

          -- figures at lead 0 stay while its tanks are worked out
          kept-first : (k : ℕ) → k < i + 1 → figures_at worked ((k + 1) * w) ≡ lead_figures t s 0 (last_cell t k)
          kept-first k l = tanks-stay t L i k opened-at a ∙ held.first k l

          pub last_done :
              {v : Result Unit Refusal} {d : ℕ} {after : List Figures}
              → d ≡ (element_at bytes i).down
              → ElementWorked v (tank_input noise H None) f ((i + 1) * w + 1) (d * w + 1) L worked after
              → TanksDone v t s L i after
          last_done {v} {d} {after} q done =
              let work : ElementWorked v (tank_input noise H None) f ((i + 1) * w + 1) ((t.element i).down * w + 1) L worked after =
              subst (λ (k : ℕ). ElementWorked v (tank_input noise H None) f ((i + 1) * w + 1) (k * w + 1) L worked after) (down_is q) done in
              record {
                done = λ y.
                    record {
                      walked = forecast-again t s L i used bounds.later bounds.down _ of f is ready (work.done y);
                      first = λ k l. first-stays t s L i (t.element i).down (work.done y) k ∙ kept-first k l;
                    };
                above = λ k y.
                    refused-part tt _ (lead_numbers t s L) (last_under t s L i used bounds.later bounds.down _ of f is ready)
                    (sym (ap answer_of y) ∙ work.verdict);
              }

-- ---- the runs, and the elements of tanks between them

-- what the loop over the runs holds: the elements before one are worked out, and the others of their tanks stand in the state before place x
pub record RunsSoFar (t : TableValues) (s : State) (L n from x : ℕ) (begun : List Figures) (space : List Figures) : Type 0 where
  pub few : from ≤ n
  pub places : x ≡ n + extra_before t from
  pub size : length space ≡ length begun
  pub held : LeadsSoFar t s L from from space

module _
    {bytes : List ℕ} {n L : ℕ} {weight : List ℕ} {s : State} {begun : List Figures} (g : Given bytes n L weight s) (first : Cleared (table_in bytes) begun) where
  pub runs-begun : RunsSoFar (table_in bytes) s L n 0 n begun begun
  runs-begun =
      record {
        few = omega arith;
        places = omega (arith, extra-none (table_in bytes));
        size = refl;
        held = worked-begin _ _ _ _ first.empty;
      }

  module _ {from x : ℕ} {before : List Figures} (h : RunsSoFar (table_in bytes) s L n from x begun before) where
    -- a run ended at element i, one of tanks
    module _ {i : ℕ} {space : List Figures} (next : TanksNext (table_in bytes) s L from i space) where
      read : (table_in bytes).element i ≡ element_at bytes i
      read = element-read bytes i next.used

      kind : (element_at bytes i).kind ≡ tanks
      kind = sym (ap (λ (y : Element). y.kind) read) ∙ next.kind

      pub next-used : i < most_elements
      next-used = omega (arith, next.used, g.table.bounds.elements_most)

      pub weight-there : i < length weight
      weight-there = omega (arith, next.used, g.weights.room)

      pub tanks-ready : length space ≡ length before → TanksReady bytes n i x L (get_or weight i 0) s space
      tanks-ready size =
          record {
            table = g.table;
            elements = g.elements;
            leads = g.leads;
            state = g.state;
            used = omega (arith, next.used, g.elements);
            kind = next.kind;
            places = omega (arith, h.places, next.single);
            weighed = weight-held g.weights i next.used;
            room = omega (arith, first.room, h.size, size);
            held = next.held;
          }

      pub next-known : ((i ≤ 1000) × (26 * i + 36 ≤ length bytes)) × (1 ≤ (element_at bytes i).runoff)
      next-known = (element-there bytes g.table next.used, omega (arith, tanks-known bytes g.table next.used kind))

      -- and the tanks counted with its own
      module _ {e : ℕ} (more : e ≡ (element_at bytes i).runoff - 1) where
        next-places : x + e ≡ n + extra_before (table_in bytes) (i + 1)
        unfolding extra_tanks
        next-places =
            let own : e ≡ extra_tanks (element_at bytes i) = more ∙ rw (eq-same (element_at bytes i).kind tanks kind) in
            omega (arith, h.places, next.single, extra-read bytes i next.used own)

        pub next-few : x + e ≤ most_places
        next-few =
            omega (arith, next-places, g.elements, g.table.bounds.places_most, extra-rise (table_in bytes) (i + 1) (table_in bytes).elements (omega (arith, next.used)))

        pub runs-again :
            {v : Result Unit Refusal} {after : List Figures}
            → TanksDone v (table_in bytes) s L i after
            → v ≡ (Ok tt)
            → length space ≡ length before
            → length after ≡ length space
            → RunsSoFar (table_in bytes) s L n (i + 1) (x + e) begun after
        runs-again worked a size again =
            record {
              few = omega (arith, next.used, g.elements);
              places = next-places;
              size = omega (arith, again, size, h.size);
              held = worked.done a;
            }
