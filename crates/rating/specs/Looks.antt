-- Document 02, M-101: "one look along the pieces, first to last .. it answers the same z or 14 as before, and with either the number of
-- pieces it read"; M-105: "The curve now answers a discharge and a noise together."
use Rattle.std.specs.Prelude.{ℕ, ◌+◌, ◌-◌, ◌≤◌, ◌<◌, cond, List, [], ◌∷◌, ◌≡◌, ltb, length, get_or}
use Rattle.refusal.specs.Answers.{Answer, accepted, answer_of}
use Rattle.rating.specs.declared.Piece.{Piece}
use Rattle.rating.specs.declared.RatedReading.{RatedReading}
use Rattle.rating.specs.declared.CurveLook.{CurveLook}
use Rattle.rating.specs.Rating.{piece_for, no_piece}

-- "the number of the piece that 01 takes", counted from 1: of "the first piece with stage below its top" (`piece_for`). In an accepted table
-- there is always one.
unfoldable pub piece_number : ℕ → List Piece → ℕ
piece_number h [] = 0
piece_number h (p ∷ ps) = cond (ltb h p.top.0) 1 (piece_number h ps + 1)

-- z and the noise, or 14, and with either the number of pieces
pub record Look : Type 0 where
  pub answer : Answer RatedReading
  pub pieces : ℕ

-- what the code finds: the values as they are, the number of a refusal
abbrev pub look_of : CurveLook → Look
look_of look = record { answer = answer_of look.rated; pieces = look.pieces }

-- piece k, counted from 1, is the piece that document 01 takes: one of the pieces, the one that `piece_for` answers; the stage is below its
-- top and not below the top of any piece before it
pub record PieceTaken (h : ℕ) (pieces : List Piece) (k : ℕ) : Type 0 where
  pub least : 1 ≤ k
  pub most : k ≤ length pieces
  pub taken : piece_for h pieces ≡ accepted (get_or pieces (k - 1) no_piece)
  pub below : h < (get_or pieces (k - 1) no_piece).top.0
  pub before : (j : ℕ) → j < k - 1 → (get_or pieces j no_piece).top.0 ≤ h
