-- Document 01, Forecast: "The answer holds, by element and then lead 0 (the state itself) to L, discharge, margin, variance,
-- variance margin".
use Rattle.std.specs.Prelude.{ℕ, zero, suc, ◌+◌, ◌*◌, Bool, List, [], ◌∷◌, ◌++◌, leb}
use Rattle.refusal.specs.Answers.{Answer, rule}
use Rattle.units.specs.Ceiling.{under_ceiling}
use Rattle.method.specs.declared.Figures.{Figures}
use Rattle.table.specs.Tables.{TableValues}
use Rattle.cells.specs.Cells.{last_cell}
use Rattle.state.specs.States.{State}
use Rattle.network.specs.Forecast.{lead_figures, lead_numbers}

-- what a function gives for 0 to n - 1
unfoldable pub listed : {A : Type 0} → (ℕ → A) → ℕ → List A
listed f zero = []
listed f (suc n) = listed f n ++ f n ∷ []

-- "by element and then lead": what a function gives for each of n elements and w leads, both counted from 0
unfoldable pub by_element_and_lead : {A : Type 0} → (ℕ → ℕ → A) → ℕ → ℕ → List A
by_element_and_lead f zero w = []
by_element_and_lead f (suc n) w = by_element_and_lead f n w ++ listed (f n) w

-- the figures of each element at "lead 0 (the state itself) to L"
unfoldable pub forecast_figures : TableValues → State → List Figures
forecast_figures t s = by_element_and_lead (λ i lead. lead_figures t s lead (last_cell t i)) t.elements (t.leads + 1)

-- 15: "The lent answer space holds fewer than 4 × N × (L + 1) numbers."
unfoldable pub space_fits : TableValues → ℕ → Bool
space_fits t room = leb (4 * t.elements * (t.leads + 1)) room

-- 15 and 16, and the answer
unfoldable pub leads_answer : TableValues → State → ℕ → Answer (List Figures)
leads_answer t s room = rule 15 (space_fits t room) (under_ceiling (lead_numbers t s t.leads) (forecast_figures t s))
