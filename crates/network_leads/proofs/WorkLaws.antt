-- The walk of a forecast: what its space holds after each element, with the state's figures at lead 0.
use Rattle.refusal.specs.declared.Refusal.{Refusal}
use Rattle.std.specs.Prelude.{Result, Ok, Option, Some, None}
use Prim.{Unit}
use Prim.Native.Nat.{ℕ, zero, suc, ◌+◌, ◌*◌, ◌≤◌, ◌<◌}
use mathlib.Core.List.{List}
use mathlib.Core.Logic.{◌≢◌, ⊎_elim, inl, inr}
use mathlib.Core.Path.{◌≡◌, refl, sym, ap, subst, ◌∙◌}
use native.Mathlib.Nat.{mul-le-mul, mul-le-mul_right, add-zero, eq-or-lt_of_le}
use native.Mathlib.Omega.{arith}
use lib.ListN.{length}
use Rattle.sizes.specs.Sizes.{most_elements, most_leads, forecast_places}
use Rattle.refusal.specs.Answers.{answer_of}
use Rattle.refusal.proofs.RuleLaws.{not-both}
use Rattle.units.proofs.UnderLaws.{Under, under-accepted}
use Rattle.method.specs.declared.Figures.{Figures}
use Rattle.elements.specs.Kinds.{extra_tanks}
use Rattle.table.specs.Tables.{TableValues}
use Rattle.cells.specs.Cells.{last_cell, cells}
use Rattle.state.specs.States.{State}
use Rattle.walk.specs.Space.{Later}
use Rattle.network.specs.Step.{no_observation}
use Rattle.network.specs.Forecast.{lead_figures, lead_numbers}
use Rattle.network.proofs.NumbersLaws.{lead_own}
use Rattle.answer_space.specs.Places.{figures_at, put, Empty}
use Rattle.answer_space.proofs.PlacesLaws.{put-here, put_other, same-lead}
use Rattle.one_lead.specs.declared.ElementInput.{ElementInput}
use Rattle.lead_walk.specs.Network.{Inlet, row, closed, inlet_at}
use Rattle.lead_walk.specs.Worked.{Apart, LeadsDone}
use Rattle.lead_walk.proofs.NetworkLaws.{walked-moved}
use Rattle.tank_walk.specs.Rows.{resting, IsLast, own_row}
use Rattle.tank_walk.specs.Tanks.{TanksWorked, done, more, TanksOpened}
use Rattle.tank_walk.specs.Tanks as tank-specs
use Rattle.tank_walk.proofs.RowLaws.{tank-place}
use Rattle.tank_walk.proofs.ForecastLaws.{forecast-begin, forecast-at, forecast-whole}
use Rattle.network_leads.specs.Worked.{LeadsSoFar, TanksNext, RunWorked, LeadsWorked}

-- ---- places of w = leads + 1 leads an element

pub space_most : (n x l : ℕ) → n ≤ most_elements → x ≤ 7 → l ≤ most_leads → (n + 1 + x) * (l + 1) ≤ forecast_places
space_most n x l few spare short =
    let more : n + 1 + x ≤ most_elements + 8 = omega (arith, few, spare) in
    let next : l + 1 ≤ most_leads + 1 = omega (arith, short) in
    omega (arith, mul-le-mul more next)

module _ (n x k w : ℕ) (l : k ≤ n + x) where
  -- all places of row k are there
  pub all_room : {m : ℕ} → (n + 1 + x) * w ≤ m → k * w + w ≤ m
  all_room r =
      let more : k + 1 ≤ n + 1 + x = omega (arith, l) in
      omega (arith, r, mul-le-mul_right w more)

-- the places at leads 1 on of an element and of one that it may drain into do not meet
pub places-apart : (leads i d : ℕ) → Later i d → Apart ((i + 1) * (leads + 1) + 1) (d * (leads + 1) + 1) leads
places-apart leads i d to =
    ⊎_elim (λ z. inr (omega (arith, ap (λ (k : ℕ). k * (leads + 1)) z))) (λ l. inl (omega (arith, mul-le-mul_right (leads + 1) l))) to

-- ---- what stands at lead 0 while the tanks of an element are worked out

-- a place that is in none of their rows
module _ {c : ElementInput} {first : ℕ → Figures} {place : ℕ → ℕ} {leads extra : ℕ} (p : ℕ) (apart : (j l : ℕ) → l < leads → p ≢ place j + l) where
  worked-stays :
      {j : ℕ} {r : Result Unit Refusal} {before after : List Figures}
      → TanksWorked c first place leads extra j r before after
      → r ≡ (Ok tt)
      → figures_at after p ≡ figures_at before p
  worked-stays (done e) a = refl
  worked-stays (tank-specs.refused l e m) a = absurd (not-both (ap answer_of a) refl)
  worked-stays {j} (more l e m rest) a =
      worked-stays rest a
      ∙ ((m.worked.done e).others p (λ k q. apart j k q) (λ k q. apart (j + 1) k q) ∙ m.row.others p (λ k q. apart (j + 1) k q))

pub tanks-stay :
    (t : TableValues) (L i k : ℕ) {r : Result Unit Refusal} {noise H x : ℕ} {s : State} {before after : List Figures}
    → TanksOpened r noise H (extra_tanks (t.element i)) x (record { own = (i + 1) * (L + 1) + 1; first = (t.elements + 1) * (L + 1) + 1; width = L + 1; leads = L }) s before after
    → r ≡ (Ok tt)
    → figures_at after ((k + 1) * (L + 1)) ≡ figures_at before ((k + 1) * (L + 1))
tanks-stay t L i k g a =
    worked-stays ((k + 1) * (L + 1)) (λ j l m. rw (tank-place (t.elements + 1) (i + 1) (extra_tanks (t.element i)) (L + 1) 1 L j) (λ e. apart-row _ l m e)) g.worked a
    ∙ g.row.others ((k + 1) * (L + 1)) (λ l m e. apart-row (t.elements + 1) l m e)
  where
    apart-row : (r l : ℕ) → l < L → (k + 1) * (L + 1) ≢ r * (L + 1) + 1 + l
    apart-row r l m e = omega (arith, same-lead (L + 1) (k + 1) r 0 (1 + l) (omega arith) (omega (arith, m)) (omega (arith, e)))

-- ---- the walk

module _ (t : TableValues) (s : State) (leads : ℕ) where
  abbrev w : ℕ
  w = leads + 1

  pub worked-begin : (space : List Figures) → Empty space → LeadsSoFar t s leads 0 0 space
  worked-begin space e =
      record { walked = forecast-begin t s leads space e.at; first = λ k l. absurd (omega arith) }

  -- lead 0 of one element disturbs no other place
  lead-apart : (k i l : ℕ) → l < leads → k * w + 1 + l ≢ i * w
  lead-apart k i l m e =
      omega (arith, same-lead w k i (1 + l) 0 (omega (arith, m)) (omega arith) (omega (arith, e)))

  module _ (i : ℕ) (space : List Figures) (h : LeadsSoFar t s leads i i space) (f : Figures) (is : f ≡ lead_figures t s 0 (last_cell t i)) where
    abbrev own : ℕ
    own = (i + 1) * w

    stays : (l k : ℕ) → l < leads → figures_at (put space own f) (k * w + 1 + l) ≡ figures_at space (k * w + 1 + l)
    stays l k m = put_other space own f (k * w + 1 + l) (lead-apart k (i + 1) l m)

    inlet-stays :
        (l : ℕ)
        → l < leads
        → (x : Inlet)
        → inlet_at (cells t) (lead_own t s) no_observation (lead_figures t s) w 1 (IsLast t) (own_row t) l (put space own f) x
        ≡ inlet_at (cells t) (lead_own t s) no_observation (lead_figures t s) w 1 (IsLast t) (own_row t) l space x
    unfolding inlet_at
    inlet-stays l m (row r) = stays l r m
    inlet-stays l m closed = refl

    pub worked-first : own < length space → LeadsSoFar t s leads (i + 1) i (put space own f)
    worked-first room =
        record {
          walked =
              walked-moved (cells t) _ _ _ w 1 (IsLast t) (own_row t) (resting t) (resting t) leads _ space (put space own f) h.walked
              (λ l k m q. inlet-stays l m (resting t k)) (λ l k m n q. stays l (own_row t k) m);
          first = λ k n. ⊎_elim (λ e. rw e (put-here space own f room ∙ is)) (λ m. other k m ∙ h.first k m) (eq-or-lt_of_le (omega arith));
        }
      where
        other : (k : ℕ) → k < i → figures_at (put space own f) ((k + 1) * w) ≡ figures_at space ((k + 1) * w)
        other k m = put_other space own f ((k + 1) * w) (λ e. omega (arith, m, e, mul-le-mul_right w (below k m)))
          where
            below : (k : ℕ) → k < i → k + 1 + 1 ≤ i + 1
            below k m = omega (arith, m)

  -- figures at lead 0 stay at a turn
  pub first-stays :
      (i d : ℕ) {c : ElementInput} {f : Figures} {space after : List Figures}
      → LeadsDone c f ((i + 1) * w + 1) (d * w + 1) leads space after
      → (k : ℕ)
      → figures_at after ((k + 1) * w) ≡ figures_at space ((k + 1) * w)
  first-stays i d g k =
      g.others ((k + 1) * w) (λ l m e. lead-apart (i + 1) (k + 1) l m (sym e)) (λ l m e. lead-apart d (k + 1) l m (sym e))

  -- ---- what a run answers

  module _ (from : ℕ) (space : List Figures) where
    pub run-end : {end : Option ℕ} → RunWorked (Ok end) t s leads from space → end ≡ None → LeadsSoFar t s leads t.elements t.elements space
    unfolding RunWorked
    run-end worked e = rw e at worked

    pub run-next : {end : Option ℕ} {i : ℕ} → RunWorked (Ok end) t s leads from space → end ≡ Some i → TanksNext t s leads from i space
    unfolding RunWorked
    run-next worked e = rw e at worked

  -- ---- all elements

  figures-stand :
      (space : List Figures)
      → LeadsSoFar t s leads t.elements t.elements space
      → (k lead : ℕ)
      → k < t.elements
      → lead < w
      → figures_at space ((k + 1) * w + lead) ≡ lead_figures t s lead (last_cell t k)
  figures-stand space h k zero l m = ap (figures_at space) (add-zero ((k + 1) * w)) ∙ h.first k l
  figures-stand space h k (suc lead) l m =
      ap (figures_at space) (next ((k + 1) * w)) ∙ forecast-at t s leads space h.walked k lead l (omega (arith, m))
    where
      next : (p : ℕ) → p + suc lead ≡ p + 1 + lead
      next p = omega arith

  module _ (all : leads ≡ t.leads) where
    pub worked-accepted : (space : List Figures) → LeadsSoFar t s leads t.elements t.elements space → LeadsWorked (Ok tt) space t s
    worked-accepted space h =
        record {
          verdict =
              under-accepted tt _ (subst (λ (n : ℕ). Under (lead_numbers t s n)) all (forecast-whole t s leads space h.walked));
          held = λ v.
              record {
                at = λ k lead l m.
                    subst (λ (n : ℕ). figures_at space ((k + 1) * (n + 1) + lead) ≡ lead_figures t s lead (last_cell t k)) all
                    (figures-stand space h k lead l (omega (arith, all)));
              };
        }
