-- The program's loop, to be read beside `main` (`cabinet/src/main.rt`), for input that comes in pieces: what it has written, and whether
-- it has ended.
use Rattle.std.specs.Prelude.{ℕ, zero, suc, Bool, true, false, List, [], ◌∷◌, ◌++◌, ◌≡◌}
use Rattle.program.specs.Program.{program}
use Rattle.program_run.specs.Machine.{Held, first, Next, write, end, read, answer, next, after_next, given, closed}

-- the input that was cut into these pieces; a piece may be empty
unfoldable pub joined_pieces : List (List ℕ) → List ℕ
joined_pieces [] = []
joined_pieces (piece ∷ rest) = piece ++ joined_pieces rest

pub record Written : Type 0 where
  pub text : List ℕ
  pub ended : Bool

unfoldable pub written_first : List ℕ → Written → Written
written_first text w = record { text = text ++ w.text; ended = w.ended }

-- one turn of the loop, with what the turns after it do: text is written, the loop ends, the next piece is read or the end after the
-- last, or the next turn follows
unfoldable pub turn : (Held → List (List ℕ) → Written) → Next → Held → List (List ℕ) → Written
turn more (write text) h pieces = written_first text (more h pieces)
turn more end h pieces = record { text = []; ended = true }
turn more read h [] = more (closed h) []
turn more read h (piece ∷ rest) = more (given h piece) rest
turn more answer h pieces = more h pieces

-- so many turns
unfoldable pub loop : ℕ → Held → List (List ℕ) → Written
loop zero h pieces = record { text = []; ended = false }
loop (suc turns) h pieces = turn (loop turns) (next h) (after_next (next h) h) pieces

-- after some turns the loop has ended, and has written all that document 01 says of the whole input
pub record Prints (pieces : List (List ℕ)) : Type 0 where
  pub turns : ℕ
  pub all : loop turns first pieces ≡ record { text = program (joined_pieces pieces); ended = true }
