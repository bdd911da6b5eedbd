-- Serves the code: what the code of one element's leads relies on, and what it has worked out.
use Prim.{Unit}
use Rattle.refusal.specs.declared.Refusal.{Refusal}
use Rattle.refusal.specs.Answers.{answer_of}
use Rattle.std.specs.Prelude.{ℕ, suc, ◌+◌, ◌≤◌, ◌<◌, false, List, ◌⊎◌, ◌≢◌, ◌≡◌, length, Result, Ok, None}
use Rattle.sizes.specs.Sizes.{most_leads}
use Rattle.units.specs.Ceiling.{some_passes, under_ceiling}
use Rattle.method.specs.declared.Figures.{Figures}
use Rattle.method.specs.Figures.{FiguresFit}
use Rattle.method.specs.Inflow.{joined_inflow, old_and_new_outflow}
use Rattle.answer_space.specs.Places.{figures_at, most_sum_before, FiguresBelow}
use Rattle.one_lead.specs.declared.ElementInput.{ElementInput}
use Rattle.one_lead.specs.Worked.{InputInRange}
use Rattle.lead_walk.specs.Leads.{figures_after, numbers_after}

-- so many places from one on do not meet so many from another on
abbrev pub Apart : ℕ → ℕ → ℕ → Type 0
Apart here below leads = (here + leads ≤ below) ⊎ (below + leads ≤ here)

-- the places of the leads of an element and of the one below it
pub record LeadPlaces (here below leads : ℕ) (space : List Figures) : Type 0 where
  pub short : leads ≤ most_leads
  pub here_room : here + leads ≤ length space
  pub below_room : below + leads ≤ length space
  pub apart : Apart here below leads
  pub small : (l : ℕ) → l < leads → FiguresBelow (figures_at space (below + l)) most_sum_before

pub record LeadsReady (c : ElementInput) (first : Figures) (here below leads : ℕ) (space : List Figures) : Type 0 where
  pub in_range : InputInRange c
  pub nothing : c.observation ≡ None
  pub fits : FiguresFit first
  pub places : LeadPlaces here below leads space

-- of a tank, which may be observed
pub record TankReady (c : ElementInput) (first : Figures) (here below leads : ℕ) (space : List Figures) : Type 0 where
  pub in_range : InputInRange c
  pub fits : FiguresFit first
  pub places : LeadPlaces here below leads space

-- what drains into the element at each lead
abbrev pub drained_at : List Figures → ℕ → ℕ → Figures
drained_at space here l = figures_at space (here + l)

-- the first m leads are worked out
pub record LeadsDone (c : ElementInput) (first : Figures) (here below m : ℕ) (before after : List Figures) : Type 0 where
  pub under : some_passes (numbers_after c first (drained_at before here) m) ≡ false
  pub fits : (l : ℕ) → l ≤ m → FiguresFit (figures_after c first (drained_at before here) l)
  pub placed : (l : ℕ) → l < m → figures_at after (here + l) ≡ figures_after c first (drained_at before here) (suc l)
  pub added :
      (l : ℕ)
      → l < m
      → figures_at after (below + l)
      ≡ joined_inflow (figures_at before (below + l))
      (old_and_new_outflow (figures_after c first (drained_at before here) l) (figures_after c first (drained_at before here) (suc l)))
  pub others :
      (p : ℕ)
      → ((l : ℕ) → l < m → p ≢ here + l)
      → ((l : ℕ) → l < m → p ≢ below + l)
      → figures_at after p ≡ figures_at before p

-- all leads of the element, or 16
pub record ElementWorked (r : Result Unit Refusal) (c : ElementInput) (first : Figures) (here below leads : ℕ) (before after : List Figures) : Type 0 where
  pub verdict : answer_of r ≡ under_ceiling (numbers_after c first (drained_at before here) leads) tt
  pub done : r ≡ (Ok tt) → LeadsDone c first here below leads before after
