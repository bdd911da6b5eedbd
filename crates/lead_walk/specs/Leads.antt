-- Document 01, One step and Forecast, of one element with what drains into it at each lead: "leads 1 to L are steps without readings"; a
-- step is one lead, of number 0.
use Rattle.std.specs.Prelude.{ℕ, zero, suc, ◌+◌, List, [], ◌++◌}
use Rattle.method.specs.declared.Figures.{Figures}
use Rattle.one_lead.specs.declared.ElementInput.{ElementInput}
use Rattle.one_lead.specs.Leads.{lead_step, lead_step_numbers}

-- its figures after so many leads, with what drains into it before each, and the numbers of 16
module _ (c : ElementInput) (first : Figures) (above : ℕ → Figures) where
  unfoldable pub figures_after : ℕ → Figures
  figures_after zero = first
  figures_after (suc l) = lead_step c (c.first_lead + l) (above l) (figures_after l)

  unfoldable pub numbers_after : ℕ → List ℕ
  numbers_after zero = []
  numbers_after (suc l) = numbers_after l ++ lead_step_numbers c (c.first_lead + l) (above l) (figures_after l)
