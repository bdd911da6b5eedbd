-- Laws of rule 7 on a curve that is looked along piece by piece.
use Prim.Native.Nat.{ℕ, ◌+◌, ◌-◌, ◌*◌, ◌≤◌, ◌<◌}
use mathlib.Core.Bool.{Bool, true, false, ◌&&◌, and-true}
use mathlib.Core.List.{List}
use mathlib.Core.Path.{◌≡◌, refl, sym, ◌∙◌}
use borrow.Author.Tests.{lt-ltb, le-ltb, le-leb}
use native.Mathlib.Omega.{arith}
use lib.Dec.{eqb, leb}
use Rattle.std.specs.List.{list_all, range_with_len}
use Rattle.rating.specs.declared.Offset.{Offset}
use Rattle.rating.specs.declared.Offset.TheVariants.{Plus, Minus}
use Rattle.rating.specs.declared.Piece.{Piece}
use Rattle.rating.specs.Rating.{offset_size}
use Rattle.rating.specs.declared.Curve.{Curve}
use Rattle.fields.specs.Ranges.{in_range, all_below}
use Rattle.fields.proofs.RangeLaws.{all_more, all-fails, all-range}
use Rattle.gauges.specs.Gauges.{piece_at, curve_at}
use Rattle.gauges.specs.Rules.{offset_fits, offset_zero, piece_of, top_before, piece_in_use_fits, piece_unused, piece_fits, curve_fits}
use Rattle.gauges.proofs.GaugeLaws.{piece-stands, top-before}
use Rattle.curve_rules.specs.Judged.{Counted, InUseKept}

middle-fails : (a b c : Bool) → b ≡ false → ((a && b) && c) ≡ false
middle-fails true b c h = rw h
middle-fails false b c h = refl

last-fails : (a b : Bool) → b ≡ false → (a && b) ≡ false
last-fails true b h = h
last-fails false b h = refl

-- rule 7 on b, by how far b is from 0
pub offset-fits : (b : Offset) → offset_fits b ≡ leb (offset_size b) 30000
unfolding offset_fits
offset-fits (Plus b) = refl
offset-fits (Minus b) = refl

pub offset-zero : (b : Offset) → offset_zero b ≡ eqb (offset_size b) 0
unfolding offset_zero
offset-zero (Plus b) = refl
offset-zero (Minus b) = refl

module _ (curve : Curve) where
  -- the test that the code makes of piece j, in use or not
  in_use :
      {j below : ℕ} {piece : Piece} {fit : Bool}
      → j < curve.count
      → below ≡ top_before curve j
      → piece ≡ piece_of curve j
      → fit ≡ piece_in_use_fits below piece
      → fit ≡ piece_fits curve j
  unfolding piece_fits
  in_use l b p h = rw (lt-ltb _ _ l, ← b, ← p) h

  not-in-use :
      {j : ℕ} {piece : Piece} {fit : Bool}
      → curve.count ≤ j
      → piece ≡ piece_of curve j
      → fit ≡ piece_unused piece
      → fit ≡ piece_fits curve j
  unfolding piece_fits
  not-in-use l p h = rw (le-ltb _ _ l, ← p) h

  pub top-none : 0 ≡ top_before curve 0
  unfolding top_before
  top-none = refl

  -- one piece more that fits, and one that does not
  pub piece-kept :
      (j : ℕ) {fit : Bool}
      → all_below (piece_fits curve) j ≡ true
      → fit ≡ piece_fits curve j
      → fit ≡ true
      → all_below (piece_fits curve) (j + 1) ≡ true
  piece-kept j {fit} all e h = sym (all_more _ j (sym all) (sym h ∙ e))

  pub piece-broken :
      (j n : ℕ) {fit : Bool} → j < n → fit ≡ piece_fits curve j → fit ≡ false → all_below (piece_fits curve) n ≡ false
  piece-broken j n {fit} l e h = all-fails _ n j l (sym e ∙ h)

  -- a curve with a piece that does not fit, or with another last top
  pub all-broken : all_below (piece_fits curve) 5 ≡ false → curve_fits curve ≡ false
  unfolding curve_fits
  all-broken h = middle-fails (in_range curve.count 1 5) _ _ h

  pub last-broken : 1 ≤ curve.count → eqb (top_before curve curve.count) 30001 ≡ false → curve_fits curve ≡ false
  unfolding curve_fits
  last-broken l h = last-fails (in_range curve.count 1 5 && all_below (piece_fits curve) 5) _ (rw (top-before curve curve.count l) at h)

  -- a curve with no pieces in use, or with too many
  pub count-out : in_range curve.count 1 5 ≡ false → false ≡ curve_fits curve
  unfolding curve_fits
  count-out h = rw h

-- the test that the code makes of a piece in use, where it stands
pub use-judged :
    (table : List ℕ) (at : ℕ) {count j below : ℕ} {piece : Piece} {fit : Bool}
    → Counted table at count
    → j < count
    → below ≡ top_before (curve_at table at) j
    → piece ≡ piece_at table (at + 6 + 8 * j)
    → fit ≡ piece_in_use_fits below piece
    → (fit ≡ piece_fits (curve_at table at) j) × (piece ≡ piece_of (curve_at table at) j)
use-judged table at {j = j} n l b p h =
    let here = p ∙ piece-stands table at j (omega (arith, n.most)) in
    (in_use (curve_at table at) (omega (arith, n.counted)) b here h, here)

-- the pieces after those in use, looked along by `all`
pub unused-decide :
    (table : List ℕ) (at : ℕ) {count : ℕ}
    → Counted table at count
    → InUseKept (curve_at table at)
    → list_all (λ j. piece_unused (piece_at table (at + 6 + 8 * j))) (range_with_len count (5 - count)) ≡ curve_fits (curve_at table at)
unfolding curve_fits
unused-decide table at {count} n kept =
    let curve = curve_at table at in
    let agree = λ (j : ℕ) (l : count ≤ j) (m : j < count + (5 - count)).
    not-in-use curve {fit = piece_unused (piece_at table (at + 6 + 8 * j))} (omega (arith, n.counted)) (piece-stands table at j (omega (arith, n.most))) refl
    in
    let used : all_below (piece_fits curve) count ≡ true = rw n.counted kept.pieces in
    let five : count + (5 - count) ≡ 5 = omega (arith, n.most) in
    let all = rw (used, five) at (all-range (piece_fits curve) (λ j. piece_unused (piece_at table (at + 6 + 8 * j))) count (5 - count) agree) in
    let last = rw (top-before curve curve.count (omega (arith, n.least, n.counted))) at kept.last in
    let low = le-leb 1 curve.count (omega (arith, n.least, n.counted)) in
    let high = le-leb curve.count 5 (omega (arith, n.most, n.counted)) in
    rw (all, low, high, last, and-true (all_below (piece_fits curve) 5))
