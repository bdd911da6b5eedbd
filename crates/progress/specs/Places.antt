-- Serves the code: what the program holds, by where it lies in the program's buffers, and what the functions on its progress leave.
use Rattle.std.specs.Prelude.{ℕ, ◌+◌, ◌-◌, ◌≤◌, ◌<◌, Bool, true, false, cond, List, ◌≡◌, eqb, length, take, drop}
use Rattle.table.specs.declared.Counts.{Counts}
use Rattle.state.specs.States.{State}
use Rattle.table_input.specs.Start.{empty_state}
use Rattle.program_run.specs.Machine.{Held, first, written, given, closed}
use Rattle.progress.specs.declared.Progress.{Progress}

-- what is held, from the buffers of the input, of the table and of the text, and the state
unfoldable pub held_in : Progress → List ℕ → List ℕ → State → List ℕ → Held
held_in p input table state out =
    record {
      judged = p.judged;
      unused = take (p.have - p.from) (drop p.from input);
      over = p.over;
      left = p.left;
      table = take p.length table;
      state = state;
      text = take p.at out;
    }

-- before the first byte
pub record FirstProgress (r : Progress) : Type 0 where
  pub judged : r.judged ≡ false
  pub from : r.from ≡ 0
  pub have : r.have ≡ 0
  pub length : r.length ≡ 0
  pub at : r.at ≡ 0
  pub held : (input table out : List ℕ) → held_in r input table empty_state out ≡ first

-- ---- what each thing changes

-- the text is handed over
abbrev pub after_write : Progress → Progress
after_write p = record p { at = 0 }

-- the bytes that are not used yet are moved to the front
abbrev pub in_front : Progress → Progress
in_front p = record p { from = 0; have = p.have - p.from }

-- so many bytes are read after them; where none came, the input has ended
abbrev pub after_read : Progress → ℕ → Progress
after_read p got = record p { have = p.have + got; over = eqb got 0 }

-- a table of so many bytes is accepted
abbrev pub after_table : Progress → Counts → ℕ → Progress
after_table p counts size = record p { judged = true; from = p.from + size; counts = counts; length = size }

-- the table is refused: no record is answered, and text stands up to a place
abbrev pub after_refusal : Progress → ℕ → Progress
after_refusal p at = record p { judged = true; left = 0; at = at }

-- a record of so many bytes is answered, which ends the run or not
abbrev pub after_record : Progress → ℕ → Bool → ℕ → Progress
after_record p size ended at = record p { from = p.from + size; left = cond ended 0 (p.left - 1); at = at }

-- the input has ended before a record's first byte
abbrev pub after_stop : Progress → Progress
after_stop p = record p { left = 0 }

-- ---- and what is then held

pub record TextWritten (p r : Progress) : Type 0 where
  pub same : r ≡ after_write p
  pub held :
      (input table : List ℕ) (state : State) (out : List ℕ)
      → held_in r input table state out ≡ written (held_in p input table state out)

-- the bytes that are not used yet lie within the buffer
pub record WindowFits (p : Progress) (input : List ℕ) : Type 0 where
  pub order : p.from ≤ p.have
  pub inside : p.have ≤ length input

pub record MovedFront (p : Progress) (before : List ℕ) (r : Progress) (after : List ℕ) : Type 0 where
  pub same : r ≡ in_front p
  pub held :
      (table : List ℕ) (state : State) (out : List ℕ)
      → held_in r after table state out ≡ held_in p before table state out

-- the bytes that were held stay, and those that came are the next piece
pub record ReadIn (p : Progress) (got : ℕ) (r : Progress) : Type 0 where
  pub same : r ≡ after_read p got
  pub piece :
      (before after table : List ℕ) (state : State) (out : List ℕ)
      → 0 < got
      → p.over ≡ false
      → p.from ≤ p.have
      → p.have + got ≤ length after
      → take p.have after ≡ take p.have before
      → held_in r after table state out ≡ given (held_in p before table state out) (take got (drop p.have after))
  pub end :
      (before after table : List ℕ) (state : State) (out : List ℕ)
      → got ≡ 0
      → take p.have after ≡ take p.have before
      → held_in r after table state out ≡ closed (held_in p before table state out)
