-- What an accepted forecast gives: what rules 8 and 16 let through, and no number of its answer passes C.
use Prim.Native.Nat.{ℕ, zero, suc, ◌+◌, ◌≤◌, ◌<◌}
use mathlib.Core.Bool.{true}
use mathlib.Core.List.{List, [], ◌∷◌}
use mathlib.Core.Path.{◌≡◌}
use native.Mathlib.Omega.{arith}
use lib.ListN.{get_or}
use Rattle.refusal.specs.Answers.{accepted}
use Rattle.refusal.proofs.RuleLaws.{rule-kept}
use Rattle.units.specs.Units.{C}
use Rattle.units.proofs.UnderLaws.{Under, none-under, first_under, both_under}
use Rattle.method.specs.declared.Figures.{Figures}
use Rattle.method.specs.Figures.{FiguresFit, layout}
use Rattle.method.specs.Inflow.{no_inflow}
use Rattle.method.proofs.FiguresLaws.{figures-under}
use Rattle.table.specs.Tables.{TableValues}
use Rattle.cells.specs.Cells.{last_cell, cells}
use Rattle.cells.proofs.CellLaws.{last-in-use}
use Rattle.state.specs.States.{State}
use Rattle.state.specs.Rules.{state_fits}
use Rattle.state.proofs.BoundsLaws.{state-bounds}
use Rattle.network.specs.Step.{no_observation}
use Rattle.network.specs.Forecast.{lead_figures, lead_numbers}
use Rattle.network.specs.Answer.{listed, by_element_and_lead, forecast_figures, space_fits, leads_answer}
use Rattle.network.proofs.NumbersLaws.{lead_own, lead-part}
use Rattle.method.proofs.LayoutLaws.{layout-append}
use Rattle.entries.specs.Entries.{forecast_on_answer}
use Rattle.entries.proofs.NextLaws.{new-fit, under-kept}

-- what the rules give of an accepted forecast
pub record Forecasting (t : TableValues) (s : State) : Type 0 where
  pub fits : state_fits t s ≡ true
  pub under : Under (lead_numbers t s t.leads)

-- and its answer
pub forecasting-on :
    (t : TableValues) (s : State) (room : ℕ) (figures : List Figures)
    → forecast_on_answer t s room ≡ accepted figures
    → Forecasting t s × (figures ≡ forecast_figures t s)
unfolding forecast_on_answer leads_answer
forecasting-on t s room figures h =
    let b = rule-kept 8 (state_fits t s) _ h in
    let c = rule-kept 15 (space_fits t room) _ b.1 in
    let d = under-kept (lead_numbers t s t.leads) (forecast_figures t s) c.1 in
    (record { fits = b.0; under = d.1 }, d.0)

-- no figure of a lead passes C
pub lead-fits :
    (t : TableValues) (s : State)
    → Forecasting t s
    → (lead : ℕ)
    → lead ≤ t.leads
    → (i : ℕ)
    → i < (cells t).elements
    → FiguresFit (lead_figures t s lead i)
unfolding lead_figures
lead-fits t s call zero m i l = (state-bounds t s call.fits).figures i l
lead-fits t s call (suc lead) m i l =
    new-fit (cells t) (lead_own t s lead) no_observation (lead_figures t s lead) (cells t).elements i l
    (lead-part t s lead t.leads m call.under)

-- ---- the numbers of the answer

-- each number of a list under the ceiling
under_at : (ns : List ℕ) → Under ns → (k : ℕ) → get_or ns k 0 ≤ C
under_at [] u k = omega arith
under_at (n ∷ ns) u zero = (first_under n ns u).0
under_at (n ∷ ns) u (suc k) = under_at ns (first_under n ns u).1 k

listed-under : (f : ℕ → Figures) (n : ℕ) → ((k : ℕ) → k < n → FiguresFit (f k)) → Under (layout (listed f n))
unfolding listed layout
listed-under f zero h = none-under
listed-under f (suc n) h =
    rw layout-append (both_under _ _ (listed-under f n (λ k l. h k (omega arith))) (figures-under (f n) (h n (omega arith))))

by-lead-under :
    (f : ℕ → ℕ → Figures) (n w : ℕ)
    → ((i lead : ℕ) → i < n → lead < w → FiguresFit (f i lead))
    → Under (layout (by_element_and_lead f n w))
unfolding by_element_and_lead layout
by-lead-under f zero w h = none-under
by-lead-under f (suc n) w h =
    rw layout-append
    (both_under _ _ (by-lead-under f n w (λ i lead l m. h i lead (omega arith) m)) (listed-under (f n) w (λ lead m. h n lead (omega arith) m)))

-- document 01, rule 16: no number that an accepted forecast answers passes C
pub answer-under :
    (t : TableValues) (s : State) (room : ℕ) (figures : List Figures)
    → forecast_on_answer t s room ≡ accepted figures
    → (k : ℕ)
    → get_or (layout figures) k 0 ≤ C
unfolding forecast_figures
answer-under t s room figures h k =
    let a = forecasting-on t s room figures h in
    rw a.1
    (under_at _ (by-lead-under (λ i lead. lead_figures t s lead (last_cell t i)) t.elements (t.leads + 1) (λ i lead l m. lead-fits t s a.0 lead (omega arith) (last_cell t i) (last-in-use t i l))) k)

-- so none of its figures
laid-fits : (fs : List Figures) → ((k : ℕ) → get_or (layout fs) k 0 ≤ C) → (k : ℕ) → FiguresFit (get_or fs k no_inflow)
unfolding layout no_inflow
laid-fits [] h k = record { discharge = omega arith; discharge_margin = omega arith; variance = omega arith; variance_margin = omega arith }
laid-fits (f ∷ fs) h zero = record { discharge = h 0; discharge_margin = h 1; variance = h 2; variance_margin = h 3 }
laid-fits (f ∷ fs) h (suc k) = laid-fits fs (λ j. h (suc (suc (suc (suc j))))) k

pub answer-fits :
    (t : TableValues) (s : State) (room : ℕ) (figures : List Figures)
    → forecast_on_answer t s room ≡ accepted figures
    → (k : ℕ)
    → FiguresFit (get_or figures k no_inflow)
answer-fits t s room figures h k = laid-fits figures (answer-under t s room figures h) k
