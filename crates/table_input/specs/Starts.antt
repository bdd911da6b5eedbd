-- Serves the code: what it finds of the table that the input begins with.
use Rattle.std.specs.Prelude.{ℕ, ◌+◌, ◌≤◌, true, List, ◌≡◌, leb, length, take, drop, Result, Ok, Err}
use Rattle.sizes.specs.Sizes.{table_bytes}
use Rattle.refusal.specs.declared.Refusal.{Refusal}
use Rattle.refusal.specs.Refusals.{number}
use Rattle.refusal.specs.Answers.{accepted, refused}
use Rattle.fields.specs.Bytes.{number32}
use Rattle.table.specs.declared.Counts.{Counts}
use Rattle.state.specs.States.{State}
use Rattle.element_weights.specs.Weights.{Weighed}
use Rattle.entries.specs.Entries.{start_answer}
use Rattle.table_input.specs.Start.{table_part, input_answer}
use Rattle.table_input.specs.declared.TableStart.{TableStart}

-- so many bytes are judged as the table, and where it is not too long they are the table's
pub record TableEnd (input : List ℕ) (size : ℕ) : Type 0 where
  pub within : size ≤ length input
  pub judged : (s : State) → input_answer input s ≡ start_answer (take size input) s
  pub bytes : leb (number32 input 0 + 4) table_bytes ≡ true → take size input ≡ table_part input
  pub after : leb (number32 input 0 + 4) table_bytes ≡ true → drop size input ≡ drop (number32 input 0 + 4) input

-- a start on the bytes of a table, from a state: the state that is left where it is accepted, with the counts and the weights of the table
pub record StartAccepted (bytes : List ℕ) (before : State) (counts : Counts) (weights : List ℕ) (after : State) : Type 0 where
  pub answered : start_answer bytes before ≡ accepted after
  pub fits : Weighed bytes counts weights

-- or its number, and the state as it was
abbrev pub StartedOn : List ℕ → State → Result Counts Refusal → List ℕ → State → Type 0
StartedOn bytes before (Ok counts) weights after = StartAccepted bytes before counts weights after
StartedOn bytes before (Err k) weights after = (start_answer bytes before ≡ refused (number k)) × (after ≡ before)

-- a start on the table that the input begins with, so many bytes: where it is accepted, records follow it
pub record InputAccepted (input : List ℕ) (before : State) (counts : Counts) (size : ℕ) (weights : List ℕ) (after : State) : Type 0 where
  pub answered : input_answer input before ≡ accepted after
  pub fits : Weighed (take size input) counts weights
  pub bytes : take size input ≡ table_part input
  pub rest : drop size input ≡ drop (number32 input 0 + 4) input

abbrev pub InputStarted : List ℕ → State → Result Counts Refusal → ℕ → List ℕ → State → Type 0
InputStarted input before (Ok counts) size weights after = InputAccepted input before counts size weights after
InputStarted input before (Err k) size weights after = (input_answer input before ≡ refused (number k)) × (after ≡ before)

pub record StartedOnInput (input : List ℕ) (before : State) (r : TableStart) (weights : List ℕ) (after : State) : Type 0 where
  pub within : r.length ≤ length input
  pub started : InputStarted input before r.counts r.length weights after
