-- Document 01, Reading: from a stage to the discharge z, or rule 14.
use Rattle.std.specs.Prelude.{ℕ, ◌+◌, ◌-◌, ◌*◌, ◌/◌, ◌≤◌, ◌<◌, cond, List, [], ◌∷◌, ◌≡◌, ltb, take, get_or}
use Rattle.refusal.specs.Answers.{Answer, accepted, refused, and_then}
use Rattle.units.specs.Units.{C, grains}
use Rattle.units.specs.declared.Discharge.{Discharge}
use Rattle.rating.specs.declared.Offset.{Offset}
use Rattle.rating.specs.declared.Offset.TheVariants.{Plus, Minus}
use Rattle.rating.specs.declared.Piece.{Piece}
use Rattle.rating.specs.declared.Curve.{Curve}

-- the pieces in use of a curve
unfoldable pub pieces_of : Curve → List Piece
pieces_of curve = take curve.count curve.pieces

-- "the first piece with stage below its top". In an accepted table the last top is 30,001, so there is always one.
unfoldable pub piece_for : ℕ → List Piece → Answer Piece
piece_for h [] = refused 14
piece_for h (p ∷ ps) = cond (ltb h p.top.0) (accepted p) (piece_for h ps)

-- h + b. Rule 14: "A reading has h + b below 0"
unfoldable pub depth : ℕ → Offset → Answer ℕ
depth h (Plus b) = accepted (h + b)
depth h (Minus b) = cond (ltb h b) (refused 14) (accepted (h - b))

-- "z = [a (h + b)² / 1,000]", given h + b. Rule 14: "or z above C"
unfoldable pub discharge_at : ℕ → ℕ → Answer Discharge
discharge_at a d = let z : ℕ = a * (d * d) / 1000 in cond (ltb C z) (refused 14) (accepted (grains z))

unfoldable pub on_piece : ℕ → Piece → Answer Discharge
on_piece h p = and_then (depth h p.offset) (discharge_at p.factor)

unfoldable pub rated : ℕ → List Piece → Answer Discharge
rated h pieces = and_then (piece_for h pieces) (on_piece h)

-- how far b is from 0
abbrev pub offset_size : Offset → ℕ
offset_size (Plus b) = b
offset_size (Minus b) = b

-- what rule 7 accepts of a piece in use: a 1 to 1,000,000, b −30,000 to 30,000
unfoldable pub OffsetFits : Offset → Type 0
OffsetFits (Plus b) = b ≤ 30000
OffsetFits (Minus b) = b ≤ 30000

pub record PieceFits (p : Piece) : Type 0 where
  pub factor : p.factor ≤ 1000000
  pub offset : OffsetFits p.offset

abbrev pub no_piece : Piece
no_piece = record { top = record { 0 = 0 }; factor = 0; offset = Plus 0 }

-- and of a curve: pieces 1 to 5, "the last used is 30,001"
pub record CurveFits (curve : Curve) : Type 0 where
  pub least : 1 ≤ curve.count
  pub most : curve.count ≤ 5
  pub pieces : (i : ℕ) → i < curve.count → PieceFits (get_or curve.pieces i no_piece)
  pub last : (get_or curve.pieces (curve.count - 1) no_piece).top.0 ≡ 30001
