-- The answer of a forecast: the leads that were worked out, and rules 15 and 16.
use Prim.{Unit}
use Rattle.std.specs.Prelude.{Result, Ok, Err, IsErrAnd}
use Rattle.std.proofs.lemmas.Result.{err_from_is_err_and}
use Prim.Native.Nat.{ℕ, ◌+◌, ◌*◌, ◌-◌, ◌≤◌, ◌<◌, min}
use mathlib.Core.Bool.{true}
use mathlib.Core.List.{List, ◌++◌}
use mathlib.Core.Path.{◌≡◌, sym, ap, ◌∙◌}
use native.Mathlib.Nat.{mul-le-mul, mul-le-mul_left, mul-le-mul_right}
use native.Mathlib.Omega.{arith}
use lib.ListN.{length, take, drop, replicate, length-drop, length-replicate}
use lib.Seq.{length-take-le, take-append-le, drop-append-le}
use Rattle.sizes.specs.Sizes.{most_elements, most_leads, answer_numbers}
use Rattle.refusal.specs.Refusals.{number}
use Rattle.refusal.specs.Answers.{accepted, refused}
use Rattle.refusal.specs.declared.Refusal.{Refusal}
use Rattle.refusal.specs.declared.Refusal.TheVariants.{AnswerSpace}
use Rattle.refusal.proofs.RuleLaws.{not-both}
use Rattle.method.specs.declared.Figures.{Figures}
use Rattle.table.specs.declared.Counts.{Counts}
use Rattle.table.specs.Tables.{TableValues}
use Rattle.table.specs.KindCounts.{extra_count}
use Rattle.table.specs.Bounds.{AcceptedBounds, CountedPlaces}
use Rattle.table.specs.InUse.{table_in}
use Rattle.cells.specs.Cells.{last_cell}
use Rattle.state.specs.States.{State}
use Rattle.state.specs.Rules.{state_fits}
use Rattle.state.proofs.BoundsLaws.{state-bounds}
use Rattle.element_weights.specs.Weights.{WeightsHeld}
use Rattle.network.specs.Forecast.{lead_figures, lead_numbers}
use Rattle.network.specs.Answer.{forecast_figures, space_fits, leads_answer}
use Rattle.method.specs.Figures.{layout}
use Rattle.method.specs.Inflow.{no_inflow}
use Rattle.network.specs.Lent.{Lent}
use Rattle.method.proofs.LayoutLaws.{layout-length}
use Rattle.network.proofs.LayoutLaws.{by-lead-length}
use Rattle.network.proofs.LentLaws.{space-refused, space-accepted, ceiling-refused, written-accepted, written-refused, none-copied, all-copied}
use Rattle.answer_space.specs.Places.{Empty, figures_at}
use Rattle.answer_space.proofs.EmptyLaws.{nothing-empty}
use Rattle.network_leads.specs.Worked.{Given, spare_rows, space_size, LeadsHeld, LeadsWorked}
use Rattle.leads.specs.Held.{answer_places, answer_size, ForecastGiven, CopyReady, Copied, ForecastHeld}
use Rattle.leads.proofs.LayoutLaws.{figures-after, answer-laid}

-- ---- what is given, and the numbers that a river needs

-- the counts of an accepted table, and what rule 8 gives besides
pub given :
    {bytes : List ℕ} {counts : Counts} {s : State}
    → CountedPlaces bytes counts
    → state_fits (table_in bytes) s ≡ true
    → ForecastGiven bytes counts.elements counts.leads counts.step s
given p h =
    record {
      table = p.counted.table;
      elements = p.counted.held.elements;
      leads = p.counted.held.leads;
      step = p.counted.held.step;
      state = state-bounds _ _ h;
    }

module _ {bytes : List ℕ} {n L T : ℕ} {s : State} (g : ForecastGiven bytes n L T s) where
  -- with the weights of its elements
  pub with-weights : {weight : List ℕ} → WeightsHeld (table_in bytes) weight → Given bytes n L weight s
  with-weights w = record { table = g.table; elements = g.elements; leads = g.leads; weights = w; state = g.state }

  -- a space has the places of two leads of each element
  pub elements-few : {room : ℕ} → space_size (table_in bytes) ≤ room → 2 * ((table_in bytes).elements + 1) ≤ room
  elements-few l =
      let t = table_in bytes in
      let more : t.elements + 1 ≤ t.elements + 1 + spare_rows t = omega arith in
      omega (arith, l, mul-le-mul_right (t.leads + 1) more, mul-le-mul_left (t.elements + 1) (two-leads t.leads g.table.bounds.leads_least))
    where
      two-leads : (L : ℕ) → 1 ≤ L → 2 ≤ L + 1
      two-leads L h = omega arith

  pub answer-size : {needed : ℕ} → needed ≡ 4 * n * (L + 1) → needed ≡ answer_size (table_in bytes)
  answer-size h = h ∙ rw (g.elements, g.leads)

  pub space-size : {room x : ℕ} → x ≡ extra_count (table_in bytes) → room ≡ (n + 1 + min x 7) * (L + 1) → room ≡ space_size (table_in bytes)
  space-size e h = h ∙ rw (g.elements, g.leads, e)

  pub answer-start : L + 1 ≡ (table_in bytes).leads + 1
  answer-start = rw g.leads

pub answer_most : (n l : ℕ) → n ≤ most_elements → l ≤ most_leads → 4 * n * (l + 1) ≤ answer_numbers
answer_most n l few short =
    let next : l + 1 ≤ most_leads + 1 = omega (arith, short) in omega (arith, mul-le-mul few next)

-- the space has the answer after the places of what leaves the river
space-is : (t : TableValues) → t.leads + 1 + answer_places t ≤ space_size t
space-is t =
    let more : t.elements + 1 ≤ t.elements + 1 + spare_rows t = omega arith in
    omega (arith, mul-le-mul_right (t.leads + 1) more)

-- ---- what the space holds

module _ (t : TableValues) (space : List Figures) (room : space_size t ≤ length space) where
  -- the space without the places of what leaves the river
  abbrev part : List Figures
  part = drop (t.leads + 1) space

  answer-there : answer_places t ≤ length part
  answer-there = omega (arith, space-is t, length-drop (t.leads + 1) space)

  laid : (s : State) → LeadsHeld space t s → take (answer_places t) part ≡ forecast_figures t s
  unfolding forecast_figures
  laid s h =
      answer-laid part (λ i lead. lead_figures t s lead (last_cell t i)) t.elements (t.leads + 1) at answer-there
    where
      next : (i lead : ℕ) → t.leads + 1 + (i * (t.leads + 1) + lead) ≡ (i + 1) * (t.leads + 1) + lead
      next i lead = omega arith

      at :
          (i lead : ℕ)
          → i < t.elements
          → lead < t.leads + 1
          → figures_at part (i * (t.leads + 1) + lead) ≡ lead_figures t s lead (last_cell t i)
      at i lead l m =
          figures-after space (t.leads + 1) (i * (t.leads + 1) + lead)
          ∙ (ap (figures_at space) (next i lead) ∙ h.at i lead l m)

  -- the answer, as the code takes it
  module _ {n from : ℕ} (all : n ≡ t.elements) (start : from ≡ t.leads + 1) where
    pub part_room : from + n * from ≤ length space
    part_room = rw (all, start) (omega (arith, space-is t, room))

    part-is : take (from + n * from - from) (drop from space) ≡ take (answer_places t) part
    part-is = rw (all, start) (ap (λ (k : ℕ). take k part) (omega arith))

    part-long : length (take (from + n * from - from) (drop from space)) ≡ answer_places t
    part-long = rw part-is (length-take-le (answer_places t) part answer-there)

    pub part_fits : {lent : ℕ} → answer_size t ≤ lent → 4 * length (take (from + n * from - from) (drop from space)) ≤ lent
    part_fits fits = rw part-long (omega (arith, fits))

figures-long : (t : TableValues) (s : State) → length (forecast_figures t s) ≡ answer_places t
unfolding forecast_figures
figures-long t s = by-lead-length (λ i lead. lead_figures t s lead (last_cell t i)) t.elements (t.leads + 1)

layout-size : (t : TableValues) (s : State) → length (layout (forecast_figures t s)) ≡ answer_size t
layout-size t s = omega (arith, layout-length (forecast_figures t s), figures-long t s)

-- ---- rules 15 and 16, and the numbers copied

-- 15, with the space that is too small
pub too_small :
    (t : TableValues) (s : State) (out : List ℕ)
    → length out < answer_size t
    → Lent (Err AnswerSpace) out (leads_answer t s (length out)) out
unfolding leads_answer space_fits
too_small t s = space-refused (answer_size t) (lead_numbers t s t.leads) (forecast_figures t s)

module _
    (t : TableValues) (s : State) (out : List ℕ) (fits : answer_size t ≤ length out) {v : Result Unit Refusal} {space : List Figures}
    (h : LeadsWorked v space t s) where
  -- a refusal is passed on
  pub not-copied : (answer : Result ℕ Refusal) {j : Refusal} → v ≡ Err j → IsErrAnd answer (λ (k : Refusal). k ≡ j) → Copied answer t s out out
  unfolding leads_answer space_fits
  not-copied answer e passed =
      let q = err_from_is_err_and answer passed in
      rw (q.1, q.2) (none-copied (answer_size t) (lead_numbers t s t.leads) (forecast_figures t s) out fits h.verdict e)

  -- all of the answer
  pub copied :
      (room : space_size t ≤ length space) {n from needed : ℕ} {after : List ℕ}
      → n ≡ t.elements
      → from ≡ t.leads + 1
      → needed ≡ answer_size t
      → after
      ≡ layout (take (from + n * from - from) (drop from space))
      ++ drop (4 * length (take (from + n * from - from) (drop from space))) out
      → v ≡ Ok tt
      → Copied (Ok needed) t s out after
  unfolding leads_answer space_fits
  copied room all start size a e =
      all-copied (answer_size t) (lead_numbers t s t.leads) (forecast_figures t s) out fits h.verdict (layout-size t s)
      (rw (part-is t space room all start ∙ laid t space room s (h.held e), long) at a) e size
    where
      long : 4 * length (forecast_figures t s) ≡ answer_size t
      long = omega (arith, figures-long t s)

-- ---- the answer where it was worked out

-- the first numbers of the space after the call are those that were worked in
module _
    (t : TableValues) (s : State) (b : AcceptedBounds t) {v : Result Unit Refusal} (worked rest : List Figures) (long : length worked ≡ space_size t)
    (h : LeadsWorked v worked t s) where
  fits : answer_size t ≤ answer_numbers
  fits = answer_most _ _ b.elements_most b.leads_most

  answer-accepted : v ≡ (Ok tt) → leads_answer t s answer_numbers ≡ accepted (forecast_figures t s)
  unfolding leads_answer space_fits
  answer-accepted e = space-accepted (answer_size t) _ _ answer_numbers fits h.verdict e

  answer-refused : {j : Refusal} → v ≡ Err j → leads_answer t s answer_numbers ≡ refused (number j)
  unfolding leads_answer space_fits
  answer-refused e = ceiling-refused (answer_size t) _ _ answer_numbers fits h.verdict e

  pub held-accepted : {count : ℕ} → count ≡ answer_size t → v ≡ (Ok tt) → ForecastHeld (Ok count) (worked ++ rest) t s
  held-accepted size e =
      record {
        count = ap accepted size ∙ written-accepted (layout-size t s) (answer-accepted e);
        figures =
            λ fs a.
            rw (figures-are fs (sym a ∙ answer-accepted e), figures-long t s)
            (first ∙ laid t worked (omega (arith, long)) s (h.held e));
      }
    where
      figures-are : (fs : List Figures) → accepted fs ≡ accepted (forecast_figures t s) → fs ≡ forecast_figures t s
      figures-are fs q = cc

      first : take (answer_places t) (drop (t.leads + 1) (worked ++ rest)) ≡ take (answer_places t) (drop (t.leads + 1) worked)
      first =
          ap (take (answer_places t)) (drop-append-le (t.leads + 1) worked rest (omega (arith, long, space-is t)))
          ∙ take-append-le (answer_places t) (drop (t.leads + 1) worked) rest
          (omega (arith, long, space-is t, length-drop (t.leads + 1) worked))

  pub held-refused : (answer : Result ℕ Refusal) {j : Refusal} → v ≡ Err j → IsErrAnd answer (λ (k : Refusal). k ≡ j) → ForecastHeld answer (worked ++ rest) t s
  held-refused answer e passed =
      let q = err_from_is_err_and answer passed in
      rw (q.1, q.2)
      (record {
        count = written-refused (answer-refused e);
        figures = λ fs a. absurd (not-both a (answer-refused e));
      })

-- ---- spaces with nothing in them

-- as the code makes them
pub zeros-ready :
    {bytes : List ℕ} {n L T : ℕ} {s : State} {own room lent : ℕ}
    → CopyReady bytes n L T s own room lent
    → CopyReady bytes n L T s (length {A = ℕ} (replicate own 0)) (length {A = Figures} (replicate room no_inflow)) lent × Empty (replicate room no_inflow)
zeros-ready {own = own} {room = room} h = (rw (length-replicate {A = ℕ} own 0, length-replicate {A = Figures} room no_inflow) h, nothing-empty room)
