-- Serves the code: what the code of one lead relies on, and what it has worked out.
use Rattle.rating.specs.declared.RatedReading.{RatedReading}
use Rattle.refusal.specs.declared.Refusal.{Refusal}
use Rattle.refusal.specs.Answers.{answer_of}
use Rattle.std.specs.Prelude.{ℕ, ◌≤◌, ◌<◌, List, ◌≢◌, ◌≡◌, length, Result, Ok, Option}
use Rattle.units.specs.Units.{C, S}
use Rattle.units.specs.Ceiling.{under_ceiling}
use Rattle.method.specs.declared.Figures.{Figures}
use Rattle.method.specs.Figures.{FiguresFit}
use Rattle.method.specs.Inflow.{joined_inflow, old_and_new_outflow}
use Rattle.elements.specs.Kinds.{dam}
use Rattle.record.specs.Decoded.{ObservationFits}
use Rattle.element_step.specs.Bounds.{ElementInRange, tank_element}
use Rattle.answer_space.specs.Places.{figures_at, FiguresBelow}
use Rattle.one_lead.specs.declared.ElementInput.{ElementInput}
use Rattle.one_lead.specs.declared.Lead.{Lead}
use Rattle.one_lead.specs.Leads.{lead_step, lead_step_numbers}

-- a step is one lead, of number 0
abbrev pub step_lead : ℕ → ℕ → Lead
step_lead here below = record { number = 0; here = here; below = below }

pub record InputInRange (c : ElementInput) : Type 0 where
  pub element : ElementInRange c.element
  pub weight : c.weight ≤ S
  pub first_lead : c.first_lead ≤ 1
  pub release : c.element.kind ≡ dam → c.own ≤ C
  pub observation : ObservationFits c.observation

-- the sums at the place below are at most `most`
pub record LeadReady (most : ℕ) (c : ElementInput) (lead : Lead) (before : Figures) (space : List Figures) : Type 0 where
  pub in_range : InputInRange c
  pub number : lead.number ≤ 12
  pub here : lead.here < length space
  pub below : lead.below < length space
  pub apart : lead.below ≢ lead.here
  pub old : FiguresFit before
  pub small : FiguresBelow (figures_at space lead.below) most

-- the figures x of a lead stand at its place, and what the element lets out is added at the place below
pub record LeadKept (x out : Figures) (lead : Lead) (before after : List Figures) : Type 0 where
  pub fits : FiguresFit x
  pub placed : figures_at after lead.here ≡ x
  pub added : figures_at after lead.below ≡ joined_inflow (figures_at before lead.below) out
  pub others : (p : ℕ) → p ≢ lead.here → p ≢ lead.below → figures_at after p ≡ figures_at before p
  pub size : length after ≡ length before

-- let_out: what is added at the place below, of the new figures
pub record LeadWorked
    (let_out : Figures → Figures) (r : Result Figures Refusal) (c : ElementInput) (lead : Lead) (old : Figures) (before after : List Figures)
    : Type 0 where
  pub answer :
      answer_of r
      ≡ under_ceiling (lead_step_numbers c lead.number (figures_at before lead.here) old)
      (lead_step c lead.number (figures_at before lead.here) old)
  pub kept : (x : Figures) → r ≡ Ok x → LeadKept x (let_out x) lead before after

-- so with the release of a dam, whatever the number of the lead
pub record DamWorked (x : Figures) (c : ElementInput) (here below : ℕ) (old : Figures) (before after : List Figures) : Type 0 where
  pub at :
      (number : ℕ)
      → LeadWorked (old_and_new_outflow old) (Ok x) c (record { number = number; here = here; below = below }) old before after

-- what a tank is worked out from at a step or at any lead
abbrev pub tank_input : ℕ → ℕ → Option RatedReading → ElementInput
tank_input noise weight o =
    record { element = tank_element noise; weight = weight; own = 0; first_lead = 1; observation = o }

-- so with a tank, whatever the number of the lead
pub record TankWorked
    (r : Result Figures Refusal) (noise weight : ℕ) (o : Option RatedReading) (here below : ℕ) (old : Figures) (before after : List Figures)
    : Type 0 where
  pub at :
      (number : ℕ)
      → LeadWorked (old_and_new_outflow old) r (tank_input noise weight o) (record { number = number; here = here; below = below }) old before
      after
