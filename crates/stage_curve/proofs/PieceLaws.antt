-- Laws of the pieces of an accepted gauge's curve, read where they stand in the table.
use Prim.Native.Nat.{ℕ, ◌+◌, ◌*◌, ◌≤◌, ◌<◌}
use mathlib.Core.List.{List}
use mathlib.Core.Path.{◌≡◌, sym, ap, ◌∙◌}
use native.Mathlib.Omega.{arith}
use lib.ListN.{get_or}
use Rattle.refusal.specs.Answers.{Answer}
use Rattle.sizes.specs.Sizes.{most_elements}
use Rattle.units.specs.declared.Discharge.{Discharge}
use Rattle.rating.specs.declared.Piece.{Piece}
use Rattle.rating.specs.Rating.{PieceFits, CurveFits, pieces_of, on_piece, rated, no_piece}
use Rattle.rating.specs.Looks.{piece_number}
use Rattle.rating.proofs.LookLaws.{TopsReached, passed-in-use, found-in-use, one_more}
use Rattle.fields.specs.Bytes.{number16}
use Rattle.gauges.specs.Gauges.{piece_at, curve_at, gauge_from}
use Rattle.gauges.specs.Bounds.{GaugeBounds}
use Rattle.gauges.specs.Rules.{piece_of}
use Rattle.gauges.proofs.GaugeLaws.{piece-stands, curve-stands}

module _ (table : List ℕ) (at : ℕ) (bounds : GaugeBounds most_elements (gauge_from table at)) where
  -- the curve of the gauge, where it stands
  pub curve-fits : CurveFits (curve_at table at)
  curve-fits = rw curve-stands bounds.curve

  module _ {k : ℕ} (used : k < (curve_at table at).count) where
    pub few : k < 5
    few = omega (arith, curve-fits.most)

    -- the piece at the place is the curve's
    here : piece_at table (at + 6 + 8 * k) ≡ get_or (curve_at table at).pieces k no_piece
    unfolding piece_of
    here = piece-stands table at k few

    -- so is its top
    top : number16 table (at + 6 + 8 * k) ≡ (get_or (curve_at table at).pieces k no_piece).top.0
    unfolding piece_at
    top = ap (λ p. p.top.0) here

    pub piece-fits : {piece : Piece} → piece ≡ piece_at table (at + 6 + 8 * k) → PieceFits piece
    piece-fits e = rw (e ∙ here) (curve-fits.pieces k used)

    module _ {stage n : ℕ} (reached : TopsReached stage (pieces_of (curve_at table at)) k) (is : n ≡ number16 table (at + 6 + 8 * k)) where
      -- the stage is below its top: the piece rates the stage
      pub found :
          {piece : Piece} {answer : Answer Discharge}
          → stage < n
          → piece ≡ piece_at table (at + 6 + 8 * k)
          → answer ≡ on_piece stage piece
          → (answer ≡ rated stage (pieces_of (curve_at table at))) × (piece_number stage (pieces_of (curve_at table at)) ≡ k + 1)
      found below p a =
          let f = found-in-use stage (curve_at table at) k used reached (rw (is ∙ top) at below) in
          (a ∙ (ap (on_piece stage) (p ∙ here) ∙ sym f.0), f.1)

      -- the stage has reached its top: one piece more is in use
      pub passed :
          stage ≤ 30000
          → n ≤ stage
          → (k + 1 < (curve_at table at).count) × TopsReached stage (pieces_of (curve_at table at)) (k + 1)
      passed small above =
          let here = rw (is ∙ top) at above in
          (one_more stage (curve_at table at) small curve-fits k used here, passed-in-use stage (curve_at table at) k used reached here)
