-- Serves the code: what a step or a trial by a record relies on, and what each part of it leaves.
use Rattle.method.specs.declared.Figures.{Figures}
use Rattle.refusal.specs.declared.Refusal.{Refusal}
use Prim.{Unit}
use Rattle.std.specs.Prelude.{ℕ, ◌+◌, ◌*◌, ◌≤◌, true, List, ◌≡◌, length, Result, Ok}
use Rattle.sizes.specs.Sizes.{most_elements, state_numbers, observed_numbers, step_places}
use Rattle.refusal.specs.Answers.{Answer, accepted, rule, answer_of}
use Rattle.units.specs.Ceiling.{under_ceiling}
use Rattle.table.specs.declared.Counts.{Counts}
use Rattle.table.specs.Tables.{TableValues}
use Rattle.table.specs.KindCounts.{basin_count, dam_count, extra_count}
use Rattle.table.specs.Bounds.{AcceptedTable, Counted}
use Rattle.table.specs.InUse.{table_in}
use Rattle.cells.specs.Cells.{cells}
use Rattle.record.specs.Records.{input_at}
use Rattle.record.specs.Rules.{record_rules}
use Rattle.record.specs.Decoded.{HoldsObservations}
use Rattle.state.specs.States.{State}
use Rattle.state.specs.Rules.{state_fits}
use Rattle.element_weights.specs.Weights.{Weighed}
use Rattle.network.specs.Step.{step_numbers}
use Rattle.next_state.specs.Written.{FiguresHeld}
use Rattle.entries.specs.Entries.{step_rules}
use Rattle.entries.specs.Trials.{trial_space_fits}

-- an accepted table with so many elements, tanks above the last of their elements, basins and dams, and a state that rule 8 accepts
pub record RiverGiven (table : List ℕ) (n extra basins dams : ℕ) (s : State) : Type 0 where
  pub accepts : AcceptedTable table
  pub elements : n ≡ (table_in table).elements
  pub extra_all : extra ≡ extra_count (table_in table)
  pub basins_all : basins ≡ basin_count (table_in table)
  pub dams_all : dams ≡ dam_count (table_in table)
  pub fits : state_fits (table_in table) s ≡ true

-- a working space for it: so many weights, numbers for what its gauges observe, and places to work in
pub record SpaceGiven (t : TableValues) (n extra own observed room : ℕ) : Type 0 where
  pub weights : n ≤ own
  pub gauges : 2 * t.gauges ≤ observed
  pub places : n + extra + 1 ≤ room
  pub own_most : own ≤ most_elements
  pub observed_most : observed ≤ observed_numbers
  pub room_most : room ≤ step_places

-- the same with its counts, and two numbers a gauge for what they observe
pub record JudgeReady (table : List ℕ) (counts : Counts) (s : State) (observed : List ℕ) : Type 0 where
  pub counted : Counted table counts
  pub fits : state_fits (table_in table) s ≡ true
  pub room : 2 * (table_in table).gauges ≤ length observed

-- the rules before 15 and 16 decide; where they accept, so do the record's, and what its gauges observed is held; the state has all its
-- numbers
pub record StepJudged (t : TableValues) (bytes : List ℕ) (s : State) (verdict : Result Unit Refusal) (observed : List ℕ) : Type 0 where
  pub decided : answer_of verdict ≡ step_rules t bytes s (accepted tt)
  pub kept : verdict ≡ (Ok tt) → record_rules {A = Unit} t bytes (accepted tt) ≡ accepted tt
  pub held : verdict ≡ (Ok tt) → HoldsObservations observed t bytes t.gauges
  pub whole : length s ≡ state_numbers

-- the rules that a step and a trial have from 8 on, in checking order, where so many numbers are lent for the figures: 15 before 16. A step
-- lends itself 4 N
unfoldable pub worked_answer : {A : Type 0} → TableValues → List ℕ → State → ℕ → A → Answer A
worked_answer t bytes s lent a =
    step_rules t bytes s (rule 15 (trial_space_fits t lent) (under_ceiling (step_numbers t (input_at (cells t) bytes) s) a))

-- an accepted table with so many basins and dams, a state that rule 8 accepts, a number an element for its weight, and two a gauge
pub record RecordGiven (table : List ℕ) (basins dams : ℕ) (s : State) (own observed : List ℕ) : Type 0 where
  pub counted : AcceptedTable table × ((basins ≡ basin_count (table_in table)) × (dams ≡ dam_count (table_in table)))
  pub fits : state_fits (table_in table) s ≡ true
  pub weights : (table_in table).elements ≤ length own
  pub room : 2 * (table_in table).gauges ≤ length observed

-- all rules decide; where they accept, the new figures stand in the working space
pub record RecordWorked (verdict : Result Unit Refusal) (space : List Figures) (t : TableValues) (bytes : List ℕ) (s : State) (lent : ℕ) : Type 0 where
  pub decided : answer_of verdict ≡ worked_answer t bytes s lent tt
  pub kept : verdict ≡ (Ok tt) → record_rules {A = Unit} t bytes (accepted tt) ≡ accepted tt
  pub enough : verdict ≡ (Ok tt) → 4 * t.elements ≤ lent
  pub held : verdict ≡ (Ok tt) → FiguresHeld space t bytes s
  pub whole : length s ≡ state_numbers

-- what writing the state relies on
pub record WriteGiven (verdict : Result Unit Refusal) (table : List ℕ) (n extra : ℕ) (bytes : List ℕ) (space : List Figures) (s : State) : Type 0 where
  pub accepts : AcceptedTable table
  pub elements : n ≡ (table_in table).elements
  pub extra_all : extra ≡ extra_count (table_in table)
  pub fits : state_fits (table_in table) s ≡ true
  pub room : n + extra + 1 ≤ length space
  pub worked : RecordWorked verdict space (table_in table) bytes s (4 * n)

-- what a step with weights and space lent relies on
pub record LentGiven (table : List ℕ) (counts : Counts) (weight : List ℕ) (space : List Figures) (s : State) : Type 0 where
  pub weighed : Weighed table counts weight
  pub fits : state_fits (table_in table) s ≡ true
  pub room : step_places ≤ length space
