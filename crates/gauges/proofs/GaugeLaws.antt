-- Laws of the gauges: what rule 7 asks and what it lets callers rely on.
use Prim.Native.Nat.{ℕ, zero, suc, ◌+◌, ◌-◌, ◌*◌, ◌≤◌, ◌<◌}
use mathlib.Core.Bool.{true, ◌&&◌}
use mathlib.Core.List.{List}
use mathlib.Core.Logic.{⊎_elim}
use mathlib.Core.Path.{◌≡◌, refl, ap}
use borrow.Author.Tests.{ltb-true, leb-true, eqb-true, lt-ltb}
use native.Mathlib.Nat.{mul-le-mul}
use native.Mathlib.Numerals.{add-one}
use native.Mathlib.Omega.{arith}
use lib.Dec.{ltb, leb, eqb}
use lib.ListN.{length}
use Rattle.refusal.specs.Answers.{Answer, accepted, refused}
use Rattle.units.specs.Units.{C}
use Rattle.units.specs.declared.Discharge.{Discharge}
use Rattle.rating.specs.Rating.{OffsetFits, PieceFits, CurveFits, pieces_of, rated}
use Rattle.rating.specs.Noise.{with_noise}
use Rattle.rating.specs.Bounds.{NoiseInRange, RatingFits}
use Rattle.rating.specs.Looks.{piece_number, PieceTaken}
use Rattle.rating.proofs.LookLaws.{number-taken}
use Rattle.rating.proofs.RatingLaws.{rating-fits}
use Rattle.rating.proofs.NoiseLaws.{noise-least}
use Rattle.rating.specs.declared.Offset.{Offset}
use Rattle.rating.specs.declared.Offset.TheVariants.{Plus, Minus}
use Rattle.rating.specs.declared.Piece.{Piece}
use Rattle.rating.specs.declared.Curve.{Curve}
use Rattle.rating.specs.declared.RatedReading.{RatedReading}
use Rattle.fields.specs.Bytes.{number32}
use Rattle.fields.specs.Ranges.{in_range, all_below}
use Rattle.fields.proofs.RangeLaws.{all_three, all-six, joined_same, range-bounds, all-at}
use Rattle.elements.specs.declared.Element.{Element}
use Rattle.gauges.specs.declared.Gauge.{Gauge}
use Rattle.gauges.specs.Gauges.{piece_at, curve_at, table_version, gauge_size, beta_at, gauge_from, gauge_place, gauge_at}
use Rattle.gauges.specs.Looks.{look_by, look_on}
use Rattle.gauges.specs.Places.{Versioned, GaugeThere, GaugePlaced}
use Rattle.gauges.specs.Rules.{offset_fits, piece_of, top_before, piece_in_use_fits, piece_fits, curve_fits, element_before, not_on_dam, beta_fits, gauge_fits}
use Rattle.gauges.specs.Bounds.{GaugeBounds}

-- piece j of a curve, where it stands
pub piece-stands : (table : List ℕ) (at j : ℕ) → j < 5 → piece_at table (at + 6 + 8 * j) ≡ piece_of (curve_at table at) j
unfolding piece_of curve_at
piece-stands table at zero l = ap (piece_at table) (omega arith)
piece-stands table at (suc zero) l = ap (piece_at table) (omega arith)
piece-stands table at (suc (suc zero)) l = ap (piece_at table) (omega arith)
piece-stands table at (suc (suc (suc zero))) l = ap (piece_at table) (omega arith)
piece-stands table at (suc (suc (suc (suc zero)))) l = ap (piece_at table) (omega arith)
piece-stands table at (suc (suc (suc (suc (suc j))))) l = absurd (omega arith)

-- a gauge, where it stands
pub gauge-stands : (table : List ℕ) (n g : ℕ) {at : ℕ} → at ≡ gauge_place table n g → gauge_from table at ≡ gauge_at table n g
unfolding gauge_at
gauge-stands table n g e = ap (gauge_from table) e

pub curve-stands : (table : List ℕ) (at : ℕ) → curve_at table at ≡ (gauge_from table at).curve
unfolding gauge_from
curve-stands table at = refl

-- R and β, where they stand
pub noise-read :
    (table : List ℕ) (at : ℕ) {R beta : ℕ}
    → R ≡ number32 table (at + 2)
    → beta ≡ beta_at table at
    → NoiseInRange (gauge_from table at).noise.0 (gauge_from table at).beta
    → NoiseInRange R beta
unfolding gauge_from
noise-read table at e f h = rw (e, f) h

-- the bytes of a gauge in either version
module _ (table : List ℕ) (v : Versioned table) where
  size-cases : (P : ℕ → Type 0) → P 46 → P 48 → P (gauge_size table)
  unfolding gauge_size
  size-cases P p q = ⊎_elim (λ e. rw e p) (λ e. rw e q) v.version

  pub size-counted : 44 + 2 * table_version table ≡ gauge_size table
  unfolding gauge_size
  size-counted = ⊎_elim (λ e. rw e) (λ e. rw e) v.version

  pub size-bounds : (46 ≤ gauge_size table) × (gauge_size table ≤ 48)
  size-bounds = size-cases (λ size. (46 ≤ size) × (size ≤ 48)) (omega arith, omega arith) (omega arith, omega arith)

  -- gauges stand one after the other
  pub place-before : (n : ℕ) {g m : ℕ} → g < m → gauge_place table n g + gauge_size table ≤ gauge_place table n m
  unfolding gauge_place
  place-before n {g} {m} l = size-cases (λ size. 26 * n + size * g + 10 + size ≤ 26 * n + size * m + 10) (omega (arith, l)) (omega (arith, l))

-- the place of a gauge is small, and all its bytes are there
module _ (table : List ℕ) (n g : ℕ) (p : GaugePlaced table n g) where
  pub size-product : gauge_size table * g ≤ 768
  size-product = mul-le-mul (size-bounds table p.versioned).1 p.gauges

  -- so are all elements, which stand before it
  pub elements-before : 26 * n + 10 ≤ length table
  unfolding gauge_place
  elements-before = omega (arith, p.whole)

  pub gauge-there : GaugeThere table (gauge_place table n g)
  unfolding gauge_place
  gauge-there =
      record {
        small = omega (arith, size-product, p.elements);
        whole = omega (arith, p.whole, (size-bounds table p.versioned).0);
        last = p.whole;
      }

-- the top before the piece after piece j
pub top-next : (curve : Curve) (j : ℕ) → (piece_of curve j).top.0 ≡ top_before curve (j + 1)
unfolding top_before
top-next curve j = rw add-one

pub element-next : (gauge : ℕ → Gauge) (g : ℕ) → (gauge g).element ≡ element_before gauge (g + 1)
unfolding element_before
element-next gauge g = rw add-one

-- what stands before a piece or a gauge that is not the first
pub top-before : (curve : Curve) (j : ℕ) → 0 < j → top_before curve j ≡ (piece_of curve (j - 1)).top.0
unfolding top_before
top-before curve zero l = absurd (omega arith)
top-before curve (suc j) l = let e : suc j - 1 ≡ j = omega arith in rw e

pub element-before : (gauge : ℕ → Gauge) (g : ℕ) → 0 < g → element_before gauge g ≡ (gauge (g - 1)).element
unfolding element_before
element-before gauge zero l = absurd (omega arith)
element-before gauge (suc g) l = let e : suc g - 1 ≡ g = omega arith in rw e

offset-bounds : (o : Offset) → offset_fits o ≡ true → OffsetFits o
unfolding offset_fits OffsetFits
offset-bounds (Plus b) h = leb-true _ _ h
offset-bounds (Minus b) h = leb-true _ _ h

piece-bounds : (below : ℕ) (p : Piece) → piece_in_use_fits below p ≡ true → PieceFits p
unfolding piece_in_use_fits
piece-bounds below p h =
    let k = all_three (ltb below p.top.0) (in_range p.factor 1 1000000) (offset_fits p.offset) h in
    record { factor = (range-bounds _ _ _ k.1.0).1; offset = offset-bounds _ k.1.1 }

curve-bounds : (curve : Curve) → curve_fits curve ≡ true → CurveFits curve
unfolding curve_fits piece_fits piece_of
curve-bounds curve h =
    let last = eqb (piece_of curve (curve.count - 1)).top.0 30001 in
    let k = all_three (in_range curve.count 1 5) (all_below (piece_fits curve) 5) last h in
    let count = range-bounds curve.count 1 5 k.0 in
    record {
      least = count.0;
      most = count.1;
      pieces = λ i used. piece-bounds _ _ (rw (lt-ltb _ _ used) at (all-at (piece_fits curve) 5 i (omega (arith, count.1)) k.1.0));
      last = eqb-true _ _ k.1.1;
    }

-- gauges rise strictly by element
pub gauge-rises :
    (n : ℕ) (element : ℕ → Element) (gauge : ℕ → Gauge) (g : ℕ)
    → gauge_fits n element gauge (g + 1) ≡ true
    → (gauge g).element < (gauge (g + 1)).element
unfolding gauge_fits element_before
gauge-rises n element gauge g h =
    let next = gauge (g + 1) in
    let later = ltb (element_before gauge (g + 1)) next.element in
    let noise = in_range next.noise.0 1 C in
    let k = all-six later (leb next.element n) (not_on_dam element next) noise (curve_fits next.curve) (beta_fits next) h in
    let e : element_before gauge (g + 1) ≡ (gauge g).element = rw add-one in
    omega (arith, ltb-true (element_before gauge (g + 1)) next.element k.0)

pub gauge-bounds :
    (n : ℕ) (element : ℕ → Element) (gauge : ℕ → Gauge) (g : ℕ) → gauge_fits n element gauge g ≡ true → GaugeBounds n (gauge g)
unfolding gauge_fits beta_fits
gauge-bounds n element gauge g h =
    let e = (gauge g).element in
    let later = ltb (element_before gauge g) e in
    let noise = in_range (gauge g).noise.0 1 C in
    let k = all-six later (leb e n) (not_on_dam element (gauge g)) noise (curve_fits (gauge g).curve) (beta_fits (gauge g)) h in
    let range = range-bounds (gauge g).noise.0 1 C k.1.1.1.0 in
    record {
      element_least = omega (arith, ltb-true (element_before gauge g) e k.0);
      element_most = leb-true _ _ k.1.0;
      noise = record { noise_least = range.0; noise_most = range.1; beta_most = leb-true _ _ k.1.1.1.1.1 };
      curve = curve-bounds _ k.1.1.1.1.0;
    }

-- document 02, M-101: "For every accepted gauge and stage to 30,000 mm .. the number of the piece that 01 takes"
pub accepted-piece-taken :
    (n : ℕ) (element : ℕ → Element) (gauge : ℕ → Gauge) (g h : ℕ)
    → gauge_fits n element gauge g ≡ true
    → h ≤ 30000
    → let pieces = pieces_of (gauge g).curve in PieceTaken h pieces (piece_number h pieces)
accepted-piece-taken n element gauge g h fits stage = number-taken h (gauge g).curve stage (gauge-bounds n element gauge g fits).curve

-- what the look along the curve of a gauge answers: a discharge under the ceiling and a noise of at least R, or 14
unfoldable pub LookFits : Gauge → Answer RatedReading → Type 0
LookFits gauge (accepted r) = (r.discharge.0 ≤ C) × (gauge.noise.0 ≤ r.noise.0)
LookFits gauge (refused n) = n ≡ 14

pub look-fits : (gauge : Gauge) (h : ℕ) → LookFits gauge (look_on gauge h).answer
unfolding look_on look_by with_noise LookFits RatingFits
look-fits gauge h = go (rated h (pieces_of gauge.curve)) (rating-fits h (pieces_of gauge.curve))
  where
    go : (z : Answer Discharge) → RatingFits z → LookFits gauge (with_noise gauge.noise gauge.beta z)
    go (accepted z) l = (l, noise-least gauge.noise.0 gauge.beta z.0)
    go (refused n) l = l

-- a gauge of fewer elements
pub gauge-of-more : {n m : ℕ} {gauge : Gauge} → n ≤ m → GaugeBounds n gauge → GaugeBounds m gauge
gauge-of-more l b =
    record {
      element_least = b.element_least;
      element_most = omega arith;
      noise = b.noise;
      curve = b.curve;
    }

-- rule 7 on a gauge looks at places in use alone
before_same :
    (m : ℕ) (one other : ℕ → Gauge)
    → ((g : ℕ) → g < m → one g ≡ other g)
    → (g : ℕ)
    → g < m
    → element_before one g ≡ element_before other g
unfolding element_before
before_same m one other h zero l = refl
before_same m one other h (suc g) l = ap (λ gauge. gauge.element) (h g (omega arith))

pub gauge-same :
    (n m : ℕ) (one other : ℕ → Element) (gauge gauge' : ℕ → Gauge)
    → ((i : ℕ) → i < n → one i ≡ other i)
    → ((g : ℕ) → g < m → gauge g ≡ gauge' g)
    → (g : ℕ)
    → g < m
    → gauge_fits n one gauge g ≡ gauge_fits n other gauge' g
unfolding gauge_fits not_on_dam
gauge-same n m one other gauge gauge' h k g l =
    let x = gauge' g in
    let e = x.element in
    let later = ltb (element_before gauge' g) e in
    rw (before_same m gauge gauge' k g l, k g l)
    (ap (λ free. ((free && in_range x.noise.0 1 C) && curve_fits x.curve) && beta_fits x)
    (joined_same later (leb e n) (λ a b. rw (h (e - 1) (omega (arith, ltb-true (element_before gauge' g) e a, leb-true e n b))))))
