-- Serves the code: what the code of a step relies on, holds and has worked out.
use Prim.{Unit}
use Rattle.std.specs.Prelude.{ℕ, zero, suc, ◌+◌, ◌*◌, ◌≤◌, ◌<◌, List, ◌≡◌, length, Result, Ok, Err, Option, Some, None}
use Rattle.sizes.specs.Sizes.{most_elements, most_places, most_gauges}
use Rattle.refusal.specs.Refusals.{number}
use Rattle.refusal.specs.Answers.{accepted, refused, answer_of}
use Rattle.refusal.specs.declared.Refusal.{Refusal}
use Rattle.units.specs.Ceiling.{under_ceiling}
use Rattle.method.specs.declared.Figures.{Figures}
use Rattle.method.specs.Figures.{FiguresFit}
use Rattle.method.specs.Inflow.{no_inflow, old_outflow}
use Rattle.elements.specs.Elements.{element_at}
use Rattle.elements.specs.Kinds.{tanks, extra_tanks}
use Rattle.table.specs.Tables.{TableValues}
use Rattle.table.specs.KindCounts.{basins_before, dams_before, basin_count, extra_before, extra_count}
use Rattle.table.specs.Bounds.{AcceptedTable, CountedTable}
use Rattle.table.specs.InUse.{table_in}
use Rattle.cells.specs.Cells.{first_cell, cells}
use Rattle.record.specs.Records.{input_at}
use Rattle.record.specs.Rules.{record_rules}
use Rattle.record.specs.Decoded.{HoldsObservations}
use Rattle.record.specs.GaugeOrder.{gauge_here, gauges_before}
use Rattle.state.specs.States.{State, figures_of, cell_figures}
use Rattle.state.specs.Bounds.{StateBounds}
use Rattle.element_weights.specs.Weights.{WeightsHeld}
use Rattle.network.specs.Step.{new_figures, step_own, observed_in, step_numbers}
use Rattle.answer_space.specs.Places.{figures_at, most_sum, FiguresBelow}
use Rattle.lead_walk.specs.Network.{Walked}
use Rattle.tank_walk.specs.Rows.{resting, EveryCell, cell_row}
use Rattle.next_state.specs.Written.{FiguresHeld}
use Rattle.network_step.specs.declared.Passed.{Passed}
use Rattle.network_step.specs.declared.Reached.{Reached}

-- an accepted table with so many basins and weights of its elements, an accepted record with what its gauges observed, two numbers a
-- gauge, and a state that rule 8 accepts
pub record StepReady (table : List ℕ) (basins : ℕ) (weight bytes observed : List ℕ) (s : State) : Type 0 where
  pub accepts : AcceptedTable table
  pub counted : basins ≡ basin_count (table_in table)
  pub weights : WeightsHeld (table_in table) weight
  pub kept : record_rules {A = Unit} (table_in table) bytes (accepted tt) ≡ accepted tt
  pub held : HoldsObservations observed (table_in table) bytes (table_in table).gauges
  pub room : 2 * (table_in table).gauges ≤ length observed
  pub state : StateBounds (table_in table) s

-- what adding the old outflow of element i relies on
pub record OldReady (table : List ℕ) (i : ℕ) (s : State) (space : List Figures) : Type 0 where
  pub there : (i ≤ 1000) × (26 * i + 36 ≤ length table)
  pub place : i < most_elements
  pub room : (element_at table i).down < length space
  pub small : FiguresBelow (figures_at space (element_at table i).down) most_sum
  pub fits : FiguresFit (old_outflow (figures_of s i))

-- how many places a river has: one a cell
abbrev pub place_count : TableValues → ℕ
place_count t = t.elements + extra_count t

-- a working space for n places with nothing in it
pub record Cleared (n : ℕ) (space : List Figures) : Type 0 where
  pub room : n + 1 ≤ length space
  pub none : (p : ℕ) → figures_at space p ≡ no_inflow

module _ (t : TableValues) (bytes : List ℕ) (s : State) where
  -- the figures of each cell before the step, and after it
  unfoldable pub figures_by : ℕ → ℕ → Figures
  figures_by zero = cell_figures t s
  figures_by (suc l) = new_figures (cells t) (step_own (cells t) (input_at (cells t) bytes)) (observed_in (input_at (cells t) bytes)) (figures_by l)

  -- the first i elements are worked out, with all their cells
  abbrev pub Stepping : ℕ → List Figures → Type 0
  Stepping i space =
      Walked (cells t) (λ l. step_own (cells t) (input_at (cells t) bytes)) (observed_in (input_at (cells t) bytes)) figures_by 1 0 EveryCell (cell_row t)
      (resting t) 1 (first_cell t i) space

  -- some number of the step passes the ceiling, and this is its refusal
  abbrev pub StepPasses : Refusal → Type 0
  StepPasses r = refused (number r) ≡ under_ceiling {A = Unit} (step_numbers t (input_at (cells t) bytes) s) tt

-- the basins and dams that a step has come past before element i
pub record PassedBefore (t : TableValues) (i : ℕ) (passed : Passed) : Type 0 where
  pub basins : passed.basins ≡ basins_before t i
  pub dams : passed.dams ≡ dams_before t i

-- how far it has come
pub record ReachedIn (t : TableValues) (bytes : List ℕ) (s : State) (r : Reached) (space : List Figures) : Type 0 where
  pub few : r.element ≤ t.elements
  pub tank : r.tank ≡ t.elements + extra_before t r.element
  pub passed : PassedBefore t r.element r.passed
  pub gauges : r.gauges ≡ gauges_before t r.element
  pub walked : Stepping t bytes s r.element space

-- what a run over elements relies on
pub record RunReady
    (table : List ℕ) (n m basins : ℕ) (from : Reached) (weight bytes observed : List ℕ) (s : State) (space : List Figures)
    : Type 0 where
  pub ready : StepReady table basins weight bytes observed s
  pub counts : CountedTable table n m
  pub room : place_count (table_in table) + 1 ≤ length space
  pub reached : ReachedIn (table_in table) bytes s from space

-- it has come to an element of tanks
pub record TanksMet (t : TableValues) (bytes : List ℕ) (s : State) (from met : Reached) (space : List Figures) : Type 0 where
  pub used : met.element < t.elements
  pub later : from.element ≤ met.element
  pub kind : (t.element met.element).kind ≡ tanks
  pub reached : ReachedIn t bytes s met space

-- how it ends
unfoldable pub RunEnded : Result (Option Reached) Refusal → TableValues → List ℕ → State → Reached → List Figures → Type 0
RunEnded (Ok None) t bytes s from space = Stepping t bytes s t.elements space
RunEnded (Ok (Some met)) t bytes s from space = TanksMet t bytes s from met space
RunEnded (Err r) t bytes s from space = StepPasses t bytes s r

-- the turn of an element of tanks, in a step by this record
pub record TanksTurn
    (table : List ℕ) (n m : ℕ) (met : Reached) (weight observed : List ℕ) (s : State) (space : List Figures) (basins : ℕ) (bytes : List ℕ)
    : Type 0 where
  pub run : RunReady table n m basins met weight bytes observed s space
  pub used : met.element < (table_in table).elements
  pub kind : ((table_in table).element met.element).kind ≡ tanks

-- the code of it looks at no record
pub record TanksReady (table : List ℕ) (n m : ℕ) (met : Reached) (weight observed : List ℕ) (s : State) (space : List Figures) : Type 0 where
  pub basins : ℕ
  pub bytes : List ℕ
  pub turn : TanksTurn table n m met weight observed s space basins bytes

-- element i is worked out, or some number passes
pub record ElementStepped (r : Result Unit Refusal) (t : TableValues) (bytes : List ℕ) (s : State) (i : ℕ) (after : List Figures) : Type 0 where
  pub done : r ≡ (Ok tt) → Stepping t bytes s (i + 1) after
  pub passes : (k : Refusal) → r ≡ Err k → StepPasses t bytes s k

-- so by every record of which it is the turn
pub record TanksTurned
    (r : Result Unit Refusal) (table : List ℕ) (n m : ℕ) (met : Reached) (weight observed : List ℕ) (s : State) (before after : List Figures)
    : Type 0 where
  pub by :
      (basins : ℕ) (bytes : List ℕ)
      → TanksTurn table n m met weight observed s before basins bytes
      → ElementStepped r (table_in table) bytes s met.element after

-- how far a step has come after it
unfoldable pub past_tanks : TableValues → Reached → Reached
past_tanks t r =
    record {
      element = r.element + 1;
      tank = r.tank + extra_tanks (t.element r.element);
      passed = r.passed;
      gauges = r.gauges + gauge_here t r.gauges r.element;
    }

pub record PastReady (table : List ℕ) (n m : ℕ) (met : Reached) : Type 0 where
  pub counts : CountedTable table n m
  pub used : met.element < (table_in table).elements
  pub kind : ((table_in table).element met.element).kind ≡ tanks
  pub tank_few : met.tank ≤ most_places
  pub gauges_few : met.gauges ≤ most_gauges

-- the step is worked out where no number passes
pub record StepWorked (r : Result Unit Refusal) (space : List Figures) (t : TableValues) (bytes : List ℕ) (s : State) : Type 0 where
  pub decided : answer_of r ≡ under_ceiling (step_numbers t (input_at (cells t) bytes) s) tt
  pub held : r ≡ Ok tt → FiguresHeld space t bytes s
