-- Document 01, One step and Forecast, of one element at a lead; a step is lead 0.
use Rattle.std.specs.Prelude.{ℕ, List}
use Rattle.method.specs.declared.Figures.{Figures}
use Rattle.element_step.specs.ElementStep.{element_step, element_numbers}
use Rattle.element_step.specs.Answers.{own_at}
use Rattle.one_lead.specs.declared.ElementInput.{ElementInput}

module _ (c : ElementInput) where
  -- what it has of its own at a lead
  abbrev pub own_at_lead : ℕ → Figures
  own_at_lead lead = own_at c.element c.own lead

  -- its figures at a lead, from what drains into it and its figures before, and the numbers of 16
  unfoldable pub lead_step : ℕ → Figures → Figures → Figures
  lead_step lead above old = element_step c.weight c.element (own_at_lead lead) c.observation above old

  unfoldable pub lead_step_numbers : ℕ → Figures → Figures → List ℕ
  lead_step_numbers lead above old = element_numbers c.weight c.element (own_at_lead lead) c.observation above old
