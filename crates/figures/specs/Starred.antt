-- Document 01, Tried figures: the starred ones, as facts about the definitions that the contracts cite.
use Rattle.std.specs.Prelude.{ℕ, List, [], ◌∷◌, ◌++◌, ◌≡◌}
use Rattle.refusal.specs.Answers.{accepted, refused}
use Rattle.units.specs.Units.{grains}
use Rattle.weighting.specs.Estimates.{estimate}
use Rattle.weighting.specs.Weight.{weight}
use Rattle.weighting.specs.Blend.{blended}
use Rattle.rating.specs.declared.Offset.{Offset}
use Rattle.rating.specs.declared.Offset.TheVariants.{Minus}
use Rattle.rating.specs.declared.Piece.{Piece}
use Rattle.rating.specs.Rating.{piece_for, rated}
use Rattle.method.specs.Figures.{figures}
use Rattle.method.specs.Correction.{gain, corrected}
use Rattle.state.specs.States.{State}
use Rattle.entries.specs.Entries.{start_answer}
use Rattle.program.specs.Program.{program}

-- a piece of a rating curve: top, a and b
abbrev pub piece : ℕ → ℕ → Offset → Piece
piece top a b = record { top = record { 0 = top }; factor = a; offset = b }

-- a 20,000, b −500
abbrev pub curve : List Piece
curve = piece 30_001 20_000 (Minus 500) ∷ []

-- the table of document 01's example, with this down of its one element
abbrev pub one_basin : ℕ → List ℕ
one_basin down =
    0 ∷ 0 ∷ 0 ∷ 32 ∷ 1 ∷ 0 ∷ 60 ∷ 1 ∷ 1 ∷ 0
    ∷ 1 ∷ down ∷ 0 ∷ 60 ∷ 0 ∷ 0 ∷ 14 ∷ 16 ∷ 3 ∷ 232 ∷ 0 ∷ 0 ∷ 0 ∷ 0 ∷ 0 ∷ 0 ∷ 0 ∷ 0 ∷ 0 ∷ 0 ∷ 0 ∷ 0 ∷ 0 ∷ 0 ∷ 3 ∷ 232 ∷ []

-- "Input, hex: 00000020 01 003C 01 01 00, 01 00 003C 00000E10 03E8 00000000 00000000 00000000 000003E8, 0003 01 0064."
abbrev pub example_input : List ℕ
example_input = one_basin 0 ++ 0 ∷ 3 ∷ 1 ∷ 0 ∷ 100 ∷ []

-- "1 1 0 63212055 3 0 6" and "1 1 1 86466471 4 399 6", a line each, in ASCII
abbrev pub example_output : List ℕ
example_output =
    49 ∷ 32 ∷ 49 ∷ 32 ∷ 48 ∷ 32 ∷ 54 ∷ 51 ∷ 50 ∷ 49 ∷ 50 ∷ 48 ∷ 53 ∷ 53 ∷ 32 ∷ 51 ∷ 32 ∷ 48 ∷ 32 ∷ 54 ∷ 10
    ∷ 49 ∷ 32 ∷ 49 ∷ 32 ∷ 49 ∷ 32 ∷ 56 ∷ 54 ∷ 52 ∷ 54 ∷ 54 ∷ 52 ∷ 55 ∷ 49 ∷ 32 ∷ 52 ∷ 32 ∷ 51 ∷ 57 ∷ 57 ∷ 32 ∷ 54 ∷ 10 ∷ []

pub record Starred : Type 0 where
  -- "T 60, lag 60: H 367,879,441."
  pub weight-of-an-hour : weight 60 60 ≡ 367_879_441
  -- "T 1, lag 60,000: H 999,983,334."
  pub weight-of-a-minute : weight 1 60_000 ≡ 999_983_334
  -- "Blend of 3 and 4, margins 0, w 500,000,000, g 0: 3, margin 3."
  pub even-blend : blended 500_000_000 0 (estimate 3 0) (estimate 4 0) ≡ estimate 3 3
  -- "P 300, D 0, R 100, discharge 1,000,000 margin 0, z 2,000,000: K 750,000,000; 1,750,000 margin 3; 75 margin 2."
  pub gain-of-a-reading : gain 100 300 ≡ 750_000_000
  pub correction :
      corrected 100 2_000_000 (figures (estimate 1_000_000 0) (estimate 300 0))
      ≡ figures (estimate 1_750_000 3) (estimate 75 2)
  -- "P 0, D 0, R 1, discharge 7 margin 0, z 9: 7 margin 3; 0 margin 2."
  pub correction-without-variance :
      corrected 1 9 (figures (estimate 7 0) (estimate 0 0)) ≡ figures (estimate 7 3) (estimate 0 2)
  -- "a 20,000, b −500: stage 1,500 gives 20,000,000; 500 gives 0; 499 gives 14."
  pub stage-1500 : rated 1_500 curve ≡ accepted (grains 20_000_000)
  pub stage-500 : rated 500 curve ≡ accepted (grains 0)
  pub stage-499 : rated 499 curve ≡ refused 14
  -- "Tops 1,000 and 30,001: 999 takes the first piece, 1,000 the second."
  pub stage-below-top :
      (a₁ a₂ : ℕ) (b₁ b₂ : Offset)
      → piece_for 999 (piece 1_000 a₁ b₁ ∷ piece 30_001 a₂ b₂ ∷ []) ≡ accepted (piece 1_000 a₁ b₁)
  pub stage-at-top :
      (a₁ a₂ : ℕ) (b₁ b₂ : Offset)
      → piece_for 1_000 (piece 1_000 a₁ b₁ ∷ piece 30_001 a₂ b₂ ∷ []) ≡ accepted (piece 30_001 a₂ b₂)
  -- "Element 1 with down 1: 6."
  pub down-to-itself : (s : State) → start_answer (one_basin 1) s ≡ refused 6
  -- "Output, whole"
  pub whole-output : program example_input ≡ example_output
