-- Laws of the look along a curve.
use Prim.Native.Nat.{ℕ, zero, suc, ◌+◌, ◌-◌, ◌≤◌, ◌<◌}
use mathlib.Core.Bool.{Bool, true, false}
use mathlib.Core.List.{List, [], ◌∷◌}
use mathlib.Core.Logic.{⊎_elim}
use mathlib.Core.Path.{◌≡◌, refl}
use borrow.Author.Tests.{lt-ltb, le-ltb, ltb-true, ltb-false}
use native.Mathlib.Nat.{eq-or-lt_of_le}
use native.Mathlib.Omega.{arith}
use lib.Dec.{ltb}
use lib.Seq.{get_or-take}
use lib.ListN.{get_or}
use Rattle.rating.specs.declared.Piece.{Piece}
use Rattle.rating.specs.declared.Curve.{Curve}
use Rattle.rating.specs.Rating.{pieces_of, piece_for, on_piece, rated, no_piece, CurveFits}
use Rattle.rating.specs.Looks.{piece_number, PieceTaken}

-- the stage has reached the tops of the first i pieces
pub record TopsReached (h : ℕ) (pieces : List Piece) (i : ℕ) : Type 0 where
  pub at : (j : ℕ) → j < i → (get_or pieces j no_piece).top.0 ≤ h

pub reached-none : (h : ℕ) (pieces : List Piece) → TopsReached h pieces 0
reached-none h pieces = record { at = λ j l. absurd (omega arith) }

reached-more :
    (h : ℕ) (pieces : List Piece) (i : ℕ) → TopsReached h pieces i → (get_or pieces i no_piece).top.0 ≤ h → TopsReached h pieces (i + 1)
reached-more h pieces i reached top =
    record { at = λ j l. let le : j ≤ i = omega arith in ⊎_elim (λ e. rw e top) (reached.at j) (eq-or-lt_of_le le) }

-- the stage is below the top of the next piece: that piece rates it, and its number is one more
found :
    (h : ℕ) (pieces : List Piece) (i : ℕ)
    → TopsReached h pieces i
    → h < (get_or pieces i no_piece).top.0
    → (rated h pieces ≡ on_piece h (get_or pieces i no_piece)) × (piece_number h pieces ≡ i + 1)
unfolding rated piece_for piece_number
found h [] i reached below = absurd (omega arith)
found h (p ∷ ps) zero reached below = let here = lt-ltb _ _ below in (rw here, rw here)
found h (p ∷ ps) (suc i) reached below =
    let later = found h ps i (record { at = λ j l. reached.at (suc j) (omega arith) }) below in
    let past = le-ltb _ _ (reached.at 0 (omega arith)) in
    (rw past later.0, rw past (omega (arith, later.1)))

-- the piece that the pieces after a first one take, where the stage has reached the first one's top
later :
    {h : ℕ} {p : Piece} {ps : List Piece} {k : ℕ}
    → ltb h p.top.0 ≡ false
    → PieceTaken h ps k
    → PieceTaken h (p ∷ ps) (k + 1)
unfolding piece_for
later {h} {p} {ps} {k} e t =
    let next : k + 1 - 1 ≡ suc (k - 1) = omega (arith, t.least) in
    record { least = omega arith; most = omega (arith, t.most); taken = rw (e, next) t.taken; below = rw next t.below; before = before }
  where
    before : (j : ℕ) → j < k + 1 - 1 → (get_or (p ∷ ps) j no_piece).top.0 ≤ h
    before zero l = ltb-false _ _ e
    before (suc j) l = t.before j (omega arith)

-- where the stage is below some top, document 01 takes a piece, and its number is `piece_number`
piece-taken : (h : ℕ) (pieces : List Piece) (i : ℕ) → h < (get_or pieces i no_piece).top.0 → PieceTaken h pieces (piece_number h pieces)
unfolding piece_for piece_number
piece-taken h [] i below = absurd (omega arith)
piece-taken h (p ∷ ps) i below = go (ltb h p.top.0) refl i below (λ k. piece-taken h ps k)
  where
    go :
        (here : Bool)
        → ltb h p.top.0 ≡ here
        → (i : ℕ)
        → h < (get_or (p ∷ ps) i no_piece).top.0
        → ((k : ℕ) → h < (get_or ps k no_piece).top.0 → PieceTaken h ps (piece_number h ps))
        → PieceTaken h (p ∷ ps) (piece_number h (p ∷ ps))
    go true e i below after =
        rw e (record { least = omega arith; most = omega arith; taken = rw e; below = ltb-true _ _ e; before = λ j l. absurd (omega arith) })
    go false e zero below after = absurd (omega (arith, ltb-false h p.top.0 e))
    go false e (suc i) below after = rw e (later e (after i below))

-- the same of the pieces in use of a curve
module _ (h : ℕ) (curve : Curve) (i : ℕ) (used : i < curve.count) where
  in_use : get_or (pieces_of curve) i no_piece ≡ get_or curve.pieces i no_piece
  unfolding pieces_of
  in_use = get_or-take curve.count curve.pieces i no_piece used

  pub passed-in-use :
      TopsReached h (pieces_of curve) i → (get_or curve.pieces i no_piece).top.0 ≤ h → TopsReached h (pieces_of curve) (i + 1)
  passed-in-use reached top = reached-more h (pieces_of curve) i reached (rw in_use top)

  pub found-in-use :
      TopsReached h (pieces_of curve) i
      → h < (get_or curve.pieces i no_piece).top.0
      → (rated h (pieces_of curve) ≡ on_piece h (get_or curve.pieces i no_piece)) × (piece_number h (pieces_of curve) ≡ i + 1)
  found-in-use reached below = rw in_use at (found h (pieces_of curve) i reached (rw in_use below))

-- an accepted curve, and a stage that rule 13 or 18 accepts
module _ (h : ℕ) (curve : Curve) (stage : h ≤ 30000) (fits : CurveFits curve) where
  -- a piece whose top the stage has reached is not the last
  pub one_more : (i : ℕ) → i < curve.count → (get_or curve.pieces i no_piece).top.0 ≤ h → i + 1 < curve.count
  one_more i l top =
      let le : i + 1 ≤ curve.count = omega arith in
      ⊎_elim (λ e. let last : i ≡ curve.count - 1 = omega arith in absurd (omega (arith, fits.last, rw last at top))) (λ m. m)
      (eq-or-lt_of_le le)

  -- the stage is below the last top: "the number of the piece that 01 takes" is `piece_number`
  pub number-taken : PieceTaken h (pieces_of curve) (piece_number h (pieces_of curve))
  number-taken =
      let last = in_use h curve (curve.count - 1) (omega (arith, fits.least)) in
      piece-taken h (pieces_of curve) (curve.count - 1) (rw last (omega (arith, fits.last)))
