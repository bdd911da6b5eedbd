-- Serves the code: what writing the state after a step relies on, and what it leaves. It writes in two parts, first the tanks above the last of
-- their elements, then the elements; `written-in-parts` of proofs/WriteLaws says that both together are the state after the step.
use Prim.{Unit}
use Rattle.std.specs.Prelude.{ℕ, ◌+◌, ◌≤◌, ◌<◌, List, ◌≡◌, length}
use Rattle.sizes.specs.Sizes.{most_places}
use Rattle.refusal.specs.Answers.{accepted}
use Rattle.method.specs.declared.Figures.{Figures}
use Rattle.table.specs.Tables.{TableValues}
use Rattle.table.specs.Bounds.{AcceptedTable}
use Rattle.table.specs.InUse.{table_in}
use Rattle.cells.specs.Cells.{cells, cell_place}
use Rattle.record.specs.Records.{input_at}
use Rattle.record.specs.Rules.{record_rules}
use Rattle.state.specs.States.{State, steps_of, rains_of, put_steps, put_place, figures_put, changed}
use Rattle.element_step.specs.Rains.{shifted_rains}
use Rattle.network.specs.Step.{step_figures}
use Rattle.answer_space.specs.Places.{figures_at}

-- the new figures of each cell stand where its place says
pub record FiguresHeld (space : List Figures) (t : TableValues) (bytes : List ℕ) (s : State) : Type 0 where
  pub at : (c : ℕ) → c < (cells t).elements → figures_at space (cell_place t c + 1) ≡ step_figures t (input_at (cells t) bytes) s c

-- the tanks above the last of their elements, so many from place n on
pub record TanksReady (n extra : ℕ) (space : List Figures) : Type 0 where
  pub few : n + extra ≤ most_places
  pub room : n + extra + 1 ≤ length space

abbrev pub TanksWritten : ℕ → ℕ → List Figures → State → State → Type 0
TanksWritten n extra space s after = after ≡ changed (figures_put (λ x. figures_at space (n + x + 1)) n) extra s

-- the elements: the figures of each, of tanks those of the last, and a basin's rains with its latest; and the step count
pub record WriteReady (table : List ℕ) (n : ℕ) (bytes : List ℕ) (space : List Figures) (s : State) : Type 0 where
  pub fits : AcceptedTable table
  pub elements : n ≡ (table_in table).elements
  pub kept : record_rules {A = Unit} (table_in table) bytes (accepted tt) ≡ accepted tt
  pub room : n + 1 ≤ length space
  pub steps : steps_of s ≤ 10000

unfoldable pub element_put : TableValues → List ℕ → List Figures → State → ℕ → State → State
element_put t bytes space s i =
    put_place (t.element i).kind (figures_at space (i + 1)) (shifted_rains (input_at t bytes i).rain (rains_of s i)) i

abbrev pub ElementsWritten : List ℕ → List ℕ → List Figures → State → State → Type 0
ElementsWritten table bytes space s after =
    after ≡ put_steps (changed (element_put (table_in table) bytes space s) (table_in table).elements s) (steps_of s + 1)
