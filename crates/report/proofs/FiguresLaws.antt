-- Laws of the figures that a forecast answers, and that it leaves in its space.
use Rattle.std.specs.Prelude.{Result, Ok, Err}
use Prim.Native.Nat.{ℕ, ◌+◌, ◌*◌, ◌-◌, ◌≤◌}
use mathlib.Core.Bool.{true}
use mathlib.Core.List.{List, ◌++◌}
use mathlib.Core.Path.{◌≡◌, refl, sym, ap, ◌∙◌}
use native.Mathlib.Omega.{arith}
use native.Mathlib.Nat.{mul-le-mul_left, mul-le-mul_right}
use lib.ListN.{length, take, drop, length-drop, take-append-drop, get_or-append}
use lib.Seq.{take_all}
use Rattle.sizes.specs.Sizes.{most_elements, most_leads, answer_numbers, forecast_places}
use Rattle.refusal.specs.Refusals.{number}
use Rattle.refusal.specs.Answers.{Answer, accepted, refused, answer_of}
use Rattle.refusal.specs.declared.Refusal.{Refusal}
use Rattle.refusal.proofs.RuleLaws.{not-both}
use Rattle.method.specs.declared.Figures.{Figures}
use Rattle.table.specs.Tables.{TableValues}
use Rattle.cells.specs.Cells.{last_cell}
use Rattle.state.specs.States.{State}
use Rattle.state.specs.Rules.{state_fits}
use Rattle.network.specs.Forecast.{lead_figures}
use Rattle.network.specs.Answer.{forecast_figures, leads_answer}
use Rattle.method.specs.Inflow.{no_inflow}
use Rattle.network.specs.Lent.{count_written}
use Rattle.network.proofs.LayoutLaws.{by-lead-length}
use Rattle.entries.specs.Entries.{forecast_on_answer}
use Rattle.entries.proofs.ForecastLaws.{forecasting-on, answer-fits}
use Rattle.leads.specs.Held.{ForecastHeld}
use Rattle.lines.specs.Ceiling.{FiguresUnderCeiling}

-- an accepted forecast has figures for each element at each lead
figures-count :
    (t : TableValues) (s : State) (room : ℕ) (fs : List Figures)
    → forecast_on_answer t s room ≡ accepted fs
    → length fs ≡ t.elements * (t.leads + 1)
unfolding forecast_figures
figures-count t s room fs h =
    ap (length {A = Figures}) (forecasting-on t s room fs h).1
    ∙ by-lead-length (λ i lead. lead_figures t s lead (last_cell t i)) t.elements (t.leads + 1)

-- the figures of an accepted forecast, which stand first among these
pub record ForecastShown (t : TableValues) (s : State) (all : List Figures) : Type 0 where
  pub figures : List Figures
  pub answered : forecast_on_answer t s answer_numbers ≡ accepted figures
  pub shown : figures ++ drop (length figures) all ≡ all
  pub counted : length figures ≡ t.elements * (t.leads + 1)

module _ (t : TableValues) (s : State) (fits : state_fits t s ≡ true) where
  rule-8-kept : forecast_on_answer t s answer_numbers ≡ leads_answer t s answer_numbers
  unfolding forecast_on_answer
  rule-8-kept = rw fits

  module _ (r : Result ℕ Refusal) (space : List Figures) (h : ForecastHeld r space t s) where
    pub forecast-shown :
        {count : ℕ} (all : List Figures)
        → r ≡ Ok count
        → all ≡ drop (t.leads + 1) space
        → ForecastShown t s all
    unfolding count_written
    forecast-shown all e d = go (leads_answer t s answer_numbers) refl h.count
      where
        go :
            (answer : Answer (List Figures))
            → leads_answer t s answer_numbers ≡ answer
            → answer_of r ≡ count_written answer
            → ForecastShown t s all
        go (accepted fs) a _ =
            let answered : forecast_on_answer t s answer_numbers ≡ accepted fs = rule-8-kept ∙ a in
            let k : take (length fs) all ≡ fs = rw d (h.figures fs a) in
            record {
              figures = fs;
              answered = answered;
              shown = ap (λ (l : List Figures). l ++ drop (length fs) all) (sym k) ∙ take-append-drop (length fs) all;
              counted = figures-count t s answer_numbers fs answered;
            }
        go (refused n) a c = absurd (not-both (ap answer_of e) c)

    -- a refused forecast
    pub forecast-not-shown : {k : Refusal} → r ≡ Err k → forecast_on_answer t s answer_numbers ≡ refused (number k)
    unfolding count_written
    forecast-not-shown {k} e = rule-8-kept ∙ go (leads_answer t s answer_numbers) h.count
      where
        go : (answer : Answer (List Figures)) → answer_of r ≡ count_written answer → answer ≡ refused (number k)
        go (accepted fs) c = absurd (not-both c (ap answer_of e))
        go (refused n) c = let b : answer_of r ≡ refused (number k) = ap answer_of e in cc

-- the figures that are printed are at most C each
pub shown-under :
    (t : TableValues) (s : State) (all : List Figures)
    → ForecastShown t s all
    → FiguresUnderCeiling all (t.elements * (t.leads + 1))
shown-under t s all h =
    record {
      at =
          λ k few.
          rw (← h.shown, get_or-append h.figures (drop (length h.figures) all) no_inflow k (omega (arith, few, h.counted)))
          (answer-fits t s answer_numbers h.figures h.answered k);
    }

-- the part of a space from a place on is all that stands there
pub rest_of : (space : List Figures) (from at : ℕ) → from ≡ at → take (length space - from) (drop from space) ≡ drop at space
rest_of space from at e = rw e (take_all (length space - at) (drop at space) (omega (arith, length-drop at space)))

-- and has room for the figures of all lines
pub part_room :
    (space : List Figures) (n w : ℕ)
    → w ≤ most_leads + 1
    → n * w ≤ most_elements * (most_leads + 1)
    → length space ≡ forecast_places
    → n * w ≤ length (take (length space - w) (drop w space))
part_room space n w a b e = rw (rest_of space w w refl) (omega (arith, length-drop w space))

-- few enough lines
pub few-lines : (n w : ℕ) → n ≤ most_elements → w ≤ most_leads + 1 → n * w ≤ most_elements * (most_leads + 1)
few-lines n w a b = omega (arith, mul-le-mul_right w a, mul-le-mul_left most_elements b)
