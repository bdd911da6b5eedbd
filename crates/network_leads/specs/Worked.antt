-- Serves the code: what the walk of a forecast relies on, and what it has worked out in its space: element number k at lead l at place
-- k * (leads + 1) + l.
use Prim.{Unit}
use Rattle.method.specs.declared.Figures.{Figures}
use Rattle.std.specs.Prelude.{ℕ, suc, ◌+◌, ◌*◌, ◌≤◌, ◌<◌, min, List, ◌≡◌, length, Result, Ok, Err, Option, Some, None}
use Rattle.refusal.specs.Refusals.{number}
use Rattle.refusal.specs.Answers.{refused, answer_of}
use Rattle.refusal.specs.declared.Refusal.{Refusal}
use Rattle.units.specs.Units.{S}
use Rattle.units.specs.Ceiling.{under_ceiling}
use Rattle.elements.specs.Kinds.{tanks}
use Rattle.table.specs.Tables.{TableValues}
use Rattle.table.specs.KindCounts.{extra_before, extra_count}
use Rattle.table.specs.Bounds.{AcceptedTable}
use Rattle.table.specs.InUse.{table_in}
use Rattle.cells.specs.Cells.{first_cell, last_cell, cells}
use Rattle.state.specs.States.{State}
use Rattle.state.specs.Bounds.{StateBounds}
use Rattle.element_weights.specs.Weights.{element_weight, WeightsHeld}
use Rattle.network.specs.Step.{no_observation}
use Rattle.network.specs.Forecast.{forecast_own, lead_figures, lead_numbers}
use Rattle.answer_space.specs.Places.{figures_at, Empty}
use Rattle.lead_walk.specs.Network.{Walked}
use Rattle.tank_walk.specs.Rows.{resting, IsLast, own_row}

-- N and L of an accepted table, the weights of its elements, and a state that rule 8 accepts
pub record Given (bytes : List ℕ) (n L : ℕ) (weight : List ℕ) (s : State) : Type 0 where
  pub table : AcceptedTable bytes
  pub elements : n ≡ (table_in bytes).elements
  pub leads : L ≡ (table_in bytes).leads
  pub weights : WeightsHeld (table_in bytes) weight
  pub state : StateBounds (table_in bytes) s

-- rows beside those of the elements: as many as the tanks of one element can need above its last, M-107: "2 to 8 equal tanks"
abbrev pub spare_rows : TableValues → ℕ
spare_rows t = min (extra_count t) 7

-- the places of the space
abbrev pub space_size : TableValues → ℕ
space_size t = (t.elements + 1 + spare_rows t) * (t.leads + 1)

-- a space with nothing in it, and with room
pub record Cleared (t : TableValues) (space : List Figures) : Type 0 where
  pub room : space_size t ≤ length space
  pub empty : Empty space

-- the first i elements are worked out, and the first j have the state's figures at lead 0
pub record LeadsSoFar (t : TableValues) (s : State) (leads j i : ℕ) (space : List Figures) : Type 0 where
  pub walked :
      Walked (cells t) (λ l. forecast_own t s (suc l)) no_observation (lead_figures t s) (leads + 1) 1 (IsLast t) (own_row t) (resting t) leads
      (first_cell t i) space
  pub first : (k : ℕ) → k < j → figures_at space ((k + 1) * (leads + 1)) ≡ lead_figures t s 0 (last_cell t k)

-- a run from an element on
pub record RunReady (t : TableValues) (s : State) (leads from : ℕ) (space : List Figures) : Type 0 where
  pub few : from ≤ t.elements
  pub room : space_size t ≤ length space
  pub held : LeadsSoFar t s leads from from space

-- the turn of element i, one of tanks, whose others than the last stand in the state from place x on
pub record TanksReady (bytes : List ℕ) (n i x L H : ℕ) (s : State) (space : List Figures) : Type 0 where
  pub table : AcceptedTable bytes
  pub elements : n ≡ (table_in bytes).elements
  pub leads : L ≡ (table_in bytes).leads
  pub state : StateBounds (table_in bytes) s
  pub used : i < n
  pub kind : ((table_in bytes).element i).kind ≡ tanks
  pub places : x ≡ n + extra_before (table_in bytes) i
  pub weighed : (H ≡ element_weight (table_in bytes) i) × (H ≤ S)
  pub room : space_size (table_in bytes) ≤ length space
  pub held : LeadsSoFar (table_in bytes) s L i i space

-- the next element is one of tanks, those from one on to it are not
pub record TanksNext (t : TableValues) (s : State) (leads from i : ℕ) (space : List Figures) : Type 0 where
  pub later : from ≤ i
  pub used : i < t.elements
  pub kind : (t.element i).kind ≡ tanks
  pub single : extra_before t i ≡ extra_before t from
  pub held : LeadsSoFar t s leads i i space

-- some number of the leads passes, and this is its refusal
abbrev pub LeadsPass : Refusal → TableValues → State → ℕ → Type 0
LeadsPass r t s leads = refused (number r) ≡ under_ceiling {A = Unit} (lead_numbers t s leads) tt

-- how a run over the elements from one on ends: all are worked out; before one of tanks; or some number passes
unfoldable pub RunWorked : Result (Option ℕ) Refusal → TableValues → State → ℕ → ℕ → List Figures → Type 0
RunWorked (Ok None) t s leads from space = LeadsSoFar t s leads t.elements t.elements space
RunWorked (Ok (Some i)) t s leads from space = TanksNext t s leads from i space
RunWorked (Err r) t s leads from space = LeadsPass r t s leads

-- an element of tanks is worked out, or some number passes
pub record TanksDone (r : Result Unit Refusal) (t : TableValues) (s : State) (leads i : ℕ) (space : List Figures) : Type 0 where
  pub done : r ≡ (Ok tt) → LeadsSoFar t s leads (i + 1) (i + 1) space
  pub above : (k : Refusal) → r ≡ Err k → LeadsPass k t s leads

-- the figures of each element, which are those of its last cell, at each lead stand at their places
pub record LeadsHeld (space : List Figures) (t : TableValues) (s : State) : Type 0 where
  pub at :
      (i lead : ℕ)
      → i < t.elements
      → lead < t.leads + 1
      → figures_at space ((i + 1) * (t.leads + 1) + lead) ≡ lead_figures t s lead (last_cell t i)

-- the leads are worked out, or 16
pub record LeadsWorked (r : Result Unit Refusal) (space : List Figures) (t : TableValues) (s : State) : Type 0 where
  pub verdict : answer_of r ≡ under_ceiling (lead_numbers t s t.leads) tt
  pub held : r ≡ (Ok tt) → LeadsHeld space t s
