-- Document 01, One step, element 1 to N, and document 02, M-100 and M-103.
use Rattle.rating.specs.declared.RatedReading.{RatedReading}
use Rattle.std.specs.Prelude.{ℕ, zero, suc, ◌+◌, List, [], ◌++◌, Option, None}
use Rattle.weighting.specs.Weight.{weight}
use Rattle.method.specs.declared.Figures.{Figures}
use Rattle.method.specs.Inflow.{step_inflow, no_inflow, joined_inflow, old_and_new_outflow}
use Rattle.elements.specs.Kinds.{by_kind}
use Rattle.table.specs.Tables.{TableValues}
use Rattle.record.specs.Records.{Input}
use Rattle.cells.specs.Cells.{cells, cell_place}
use Rattle.state.specs.States.{State, steps_of, cell_figures, cell_rains, put_steps, put_place, changed}
use Rattle.walk.specs.Walk.{gathered, new_cell}
use Rattle.element_step.specs.ElementStep.{released, own_of, element_step, element_numbers}
use Rattle.element_step.specs.Rains.{shifted_rains}

-- H of element i; a dam has none
unfoldable pub weight_of : TableValues → ℕ → ℕ
weight_of t i = by_kind (t.element i).kind (weight t.step (t.element i).lag) (weight t.step (t.element i).lag) 0 0

-- the network at one step or lead, from what each element has of its own, its observation and its old figures
unfoldable pub network_down : TableValues → ℕ → ℕ
network_down t i = (t.element i).down

unfoldable pub network_cell : TableValues → (ℕ → Figures) → (ℕ → Option RatedReading) → ℕ → Figures → Figures → Figures
network_cell t own o i above old = element_step (weight_of t i) (t.element i) (own i) (o i) above old

-- M-103: "the sum of old and new outflows above"
unfoldable pub network_outflow : ℕ → Figures → Figures → Figures
network_outflow i old new = old_and_new_outflow old new

module _ (t : TableValues) (own : ℕ → Figures) (o : ℕ → (Option RatedReading)) (old : ℕ → Figures) where
  -- the sums of what drains into element i, and its new figures
  unfoldable pub above_of : ℕ → Figures
  above_of i = gathered no_inflow joined_inflow (network_down t) (network_cell t own o) network_outflow old i

  unfoldable pub new_figures : ℕ → Figures
  new_figures i = new_cell no_inflow joined_inflow (network_down t) (network_cell t own o) network_outflow old i

  -- 16, of the first i elements
  unfoldable pub network_numbers : ℕ → List ℕ
  network_numbers zero = []
  network_numbers (suc i) =
      network_numbers i ++ element_numbers (weight_of t i) (t.element i) (own i) (o i) (above_of i) (old i)

-- "Basin inflow: [5 × rain × area × f / 18]"; M-100: "[a dam's] discharge is the release"
unfoldable pub step_own : TableValues → (ℕ → Input) → ℕ → Figures
step_own t input i =
    let e = t.element i in
    own_of e.kind (step_inflow (input i).rain e.area e.runoff) (released e (input i).release)

unfoldable pub observed_in : (ℕ → Input) → ℕ → Option RatedReading
observed_in input i = (input i).observation

-- no gauge observes anything
unfoldable pub no_observation : ℕ → Option RatedReading
no_observation i = None

-- a step from the state s, by what a record brings each element
module _ (t : TableValues) (input : ℕ → Input) (s : State) where
  unfoldable pub step_figures : ℕ → Figures
  step_figures = new_figures (cells t) (step_own (cells t) input) (observed_in input) (cell_figures t s)

  -- the place of cell c after it
  unfoldable pub step_put : ℕ → State → State
  step_put c = put_place ((cells t).element c).kind (step_figures c) (shifted_rains (input c).rain (cell_rains t s c)) (cell_place t c)

  unfoldable pub stepped : State
  stepped = put_steps (changed step_put (cells t).elements s) (steps_of s + 1)

  unfoldable pub step_numbers : List ℕ
  step_numbers = network_numbers (cells t) (step_own (cells t) input) (observed_in input) (cell_figures t s) (cells t).elements
