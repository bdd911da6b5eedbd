-- Serves the code: what a call of the machine leaves.
use Rattle.std.specs.Prelude.{ℕ, ◌≤◌, ◌<◌, List, ◌≡◌, length, take}
use Rattle.sizes.specs.Sizes.{longest_record}
use Rattle.state.specs.States.{State}
use Rattle.program_run.specs.Machine as definition
use Rattle.program_run.specs.Machine.{Held, next, answered, after_next}
use Rattle.progress.specs.declared.Progress.{Progress}
use Rattle.progress.specs.Places.{held_in}
use Rattle.machine.specs.declared.Next.{Next}
use Rattle.machine.specs.declared.Next.TheVariants.{Write, End, Read, Answer}
use Rattle.machine.specs.declared.Turn.{Turn}
use Rattle.machine.specs.Buffers.{BuffersFit}

-- what the code says that it has done, in the definition's words
abbrev pub next_in : Next → List ℕ → definition.Next
next_in (Write size) out = definition.write (take size out)
next_in End out = definition.end
next_in (Read at) out = definition.read
next_in Answer out = definition.answer

-- the table or a record is answered
pub record HeldAnswered
    (h : Held) (r : Progress) (input table weights : List ℕ) (state : State) (out : List ℕ)
    : Type 0 where
  pub held : held_in r input table state out ≡ answered h
  pub fits : BuffersFit r input table weights state out

-- more input is asked for, after the bytes that are held: there is room for it
pub record ReadPlace (p : Progress) (at : ℕ) : Type 0 where
  pub place : at ≡ p.have
  pub room : at < longest_record

-- the next thing is done
pub record Turned
    (h : Held) (r : Turn) (input table weights : List ℕ) (state : State) (out : List ℕ)
    : Type 0 where
  pub did : next_in r.next out ≡ next h
  pub held : held_in r.progress input table state out ≡ after_next (next h) h
  pub fits : BuffersFit r.progress input table weights state out
  pub read : (at : ℕ) → r.next ≡ Read at → ReadPlace r.progress at
  pub write : (size : ℕ) → r.next ≡ Write size → size ≤ length out
