-- Document 01, Numbers for no, 7, with the ranges of The table, and document 02, M-100 and M-105.
use Rattle.std.specs.Prelude.{ℕ, zero, suc, ◌-◌, Bool, cond, not, ◌&&◌, ltb, leb, eqb, get_or}
use Rattle.units.specs.Units.{C}
use Rattle.rating.specs.declared.Offset.{Offset}
use Rattle.rating.specs.declared.Offset.TheVariants.{Plus, Minus}
use Rattle.rating.specs.declared.Piece.{Piece}
use Rattle.rating.specs.declared.Curve.{Curve}
use Rattle.rating.specs.Rating.{no_piece}
use Rattle.fields.specs.Ranges.{in_range, all_below}
use Rattle.elements.specs.declared.Element.{Element}
use Rattle.elements.specs.Kinds.{dam, same_kind}
use Rattle.gauges.specs.declared.Gauge.{Gauge}

-- 7: "A gauge field is out of range or out of order."
-- "b −30,000 to 30,000"
unfoldable pub offset_fits : Offset → Bool
offset_fits (Plus b) = leb b 30000
offset_fits (Minus b) = leb b 30000

unfoldable pub offset_zero : Offset → Bool
offset_zero (Plus b) = eqb b 0
offset_zero (Minus b) = eqb b 0

unfoldable pub piece_of : Curve → ℕ → Piece
piece_of curve j = get_or curve.pieces j no_piece

-- the top before piece j
unfoldable pub top_before : Curve → ℕ → ℕ
top_before curve zero = 0
top_before curve (suc j) = (piece_of curve j).top.0

-- "tops rise strictly from at least 1 .. a 1 to 1,000,000", of a piece in use
unfoldable pub piece_in_use_fits : ℕ → Piece → Bool
piece_in_use_fits below p = (ltb below p.top.0 && in_range p.factor 1 1000000) && offset_fits p.offset

-- "unused pieces all zero"
unfoldable pub piece_unused : Piece → Bool
piece_unused p = (eqb p.top.0 0 && eqb p.factor 0) && offset_zero p.offset

unfoldable pub piece_fits : Curve → ℕ → Bool
piece_fits curve j =
    cond (ltb j curve.count) (piece_in_use_fits (top_before curve j) (piece_of curve j)) (piece_unused (piece_of curve j))

-- "Pieces 1 to 5", "the last used is 30,001"
unfoldable pub curve_fits : Curve → Bool
curve_fits curve =
    (in_range curve.count 1 5 && all_below (piece_fits curve) 5)
    && eqb (piece_of curve (curve.count - 1)).top.0 30001

-- the element of the gauge before gauge g
unfoldable pub element_before : (ℕ → Gauge) → ℕ → ℕ
element_before gauge zero = 0
element_before gauge (suc g) = (gauge g).element

-- M-100: "rule 7 refuses a gauge on one", a dam
unfoldable pub not_on_dam : (ℕ → Element) → Gauge → Bool
not_on_dam element gauge = not (same_kind (element (gauge.element - 1)).kind dam)

-- M-105: "β in thousandths, 0 to 500"
unfoldable pub beta_fits : Gauge → Bool
beta_fits gauge = leb gauge.beta 500

-- "A gauge's element is 1 to N; gauges rise strictly by element." "R 1 to C.", of gauge g at n elements
unfoldable pub gauge_fits : ℕ → (ℕ → Element) → (ℕ → Gauge) → ℕ → Bool
gauge_fits n element gauge g =
    ((((ltb (element_before gauge g) (gauge g).element && leb (gauge g).element n) && not_on_dam element (gauge g))
    && in_range (gauge g).noise.0 1 C)
    && curve_fits (gauge g).curve)
    && beta_fits (gauge g)
