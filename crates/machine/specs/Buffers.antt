-- Serves the code: what lies in the program's buffers between two calls of the machine.
use Prim.{Unit}
use Rattle.method.specs.declared.Figures.{Figures}
use Rattle.std.specs.Prelude.{ℕ, ◌+◌, ◌≤◌, ◌<◌, true, false, List, ◌≡◌, length, take}
use Rattle.sizes.specs.Sizes.{most_elements, state_numbers, table_bytes, forecast_places, text_bytes, input_buffer, text_buffer}
use Rattle.refusal.specs.Answers.{accepted}
use Rattle.table.specs.declared.Counts.{Counts}
use Rattle.table.specs.Rules.{table_rules}
use Rattle.table.specs.InUse.{table_in}
use Rattle.state.specs.States.{State}
use Rattle.state.specs.Rules.{state_fits}
use Rattle.element_weights.specs.Weights.{Weighed}
use Rattle.program_run.specs.Machine.{none_left}
use Rattle.progress.specs.declared.Progress.{Progress}

-- the bytes of an accepted table, its counts and weights, and a state that rule 8 accepts
pub record Started (bytes : List ℕ) (counts : Counts) (weights : List ℕ) (state : State) : Type 0 where
  pub kept : table_rules {A = Unit} bytes (accepted tt) ≡ accepted tt
  pub weighed : Weighed bytes counts weights
  pub state_kept : state_fits (table_in bytes) state ≡ true

-- the buffers have their sizes
pub record BufferSizes (input table weights : List ℕ) (state : State) (out : List ℕ) : Type 0 where
  pub input_whole : length input ≡ input_buffer
  pub table_whole : length table ≡ table_bytes
  pub weights_whole : length weights ≡ most_elements
  pub state_whole : length state ≡ state_numbers
  pub text_whole : length out ≡ text_buffer

-- what is held lies within them; while records are left, they are answered on an accepted table
pub record BuffersFit (p : Progress) (input table weights : List ℕ) (state : State) (out : List ℕ) : Type 0 where
  pub sizes : BufferSizes input table weights state out
  pub order : p.from ≤ p.have
  pub inside : p.have ≤ input_buffer
  pub table_inside : p.length ≤ table_bytes
  pub text_inside : p.at ≤ text_buffer
  pub started : p.judged ≡ true → 0 < p.left → Started (take p.length table) p.counts weights state

-- working space for a forecast
pub record WorkingSpace (space : List Figures) : Type 0 where
  pub space_whole : length space ≡ forecast_places

-- a table is to be answered, and there is room for the text
pub record TableDue (p : Progress) : Type 0 where
  pub phase : p.judged ≡ false
  pub room : p.at + text_bytes ≤ text_buffer

-- or a record
pub record RecordDue (p : Progress) : Type 0 where
  pub phase : p.judged ≡ true
  pub some : 0 < p.left
  pub room : p.at + text_bytes ≤ text_buffer

-- or one of them
pub record AnswerDue (p : Progress) : Type 0 where
  pub some : none_left p.judged p.left ≡ false
  pub room : p.at + text_bytes ≤ text_buffer
