-- An element's move stays within its margins of the move in fractions.
use Prim.Native.Nat.{ℕ, ◌+◌, ◌*◌}
use native.Mathlib.Omega.{arith}
use Rattle.weighting.specs.declared.Estimate.{Estimate}
use Rattle.method.specs.declared.Figures.{Figures}
use Rattle.method.specs.Routing.{routed_discharge, old_variance_part, inflow_variance_part, routed_variance, routed}
use Rattle.exact.specs.Fraction.{Fraction, whole, ◌⊕◌, ◌⊖◌, ◌⊗◌}
use Rattle.exact.specs.Exact.{ExactFigures, exact_blend, exact_variance, exact_routed}
use Rattle.exact.specs.Margins.{Tracks, Follows}
use Rattle.exact.proofs.FractionParts.{Is, is_same, is-lower, is-whole-over, is_sum, is-product}
use Rattle.exact.proofs.Tracking.{Both, both, tracks_same, whole-tracks, plus-tracks}
use Rattle.exact.proofs.Weights.{Share, is-rest, share-rest}
use Rattle.exact.proofs.BlendNear.{is-blend, blend-tracks}

-- f (f v + (1 − f) 0) + (1 − f) ((1 − f) u + f 0) is f f v + (1 − f) (1 − f) u
squares-track :
    {w g : ℕ} {f : Fraction} {x y e : Estimate} {v u : Fraction}
    → Share w g f
    → Tracks x v
    → Tracks y u
    → Tracks e (exact_blend f (exact_blend f v (whole 0)) (exact_blend (whole 1 ⊖ f) u (whole 0)))
    → Tracks e (f ⊗ f ⊗ v ⊕ (whole 1 ⊖ f) ⊗ (whole 1 ⊖ f) ⊗ u)
squares-track {f = f} {x = x} {y = y} {e = e} {v = v} {u = u} h t s b = go (both t s)
  where
    rest : Is (whole 1 ⊖ f) h.k 0 h.c
    rest = is-rest h.k h.is h.sum

    go : Both x y v u → Tracks e (f ⊗ f ⊗ v ⊕ (whole 1 ⊖ f) ⊗ (whole 1 ⊖ f) ⊗ u)
    go o =
        tracks_same {p = h.p * h.p * o.a + h.k * h.k * o.b} {d = h.c * h.c * o.d}
        (is-lower
        (is_same
        (is-blend h.k h.is h.sum (is-blend h.k h.is h.sum o.is none)
        (is-blend h.p rest (omega (arith, h.sum)) o.is' none))
        (omega arith))
        (omega arith))
        (is_same (is_sum (is-product (is-product h.is h.is) o.is) (is-product (is-product rest rest) o.is'))
        (omega arith))
        b
      where
        none : Is (whole 0) (0 * o.d) 0 o.d
        none = is-whole-over 0 o.is.some

variance-tracks :
    {H : ℕ} (W : ℕ) {f : Fraction} {inflow old : Estimate} {u v : Fraction}
    → Share H 3 f
    → Tracks inflow u
    → Tracks old v
    → Tracks (routed_variance H W inflow old) (exact_variance f W u v)
unfolding routed_variance old_variance_part inflow_variance_part exact_variance
variance-tracks W h t s =
    plus-tracks W
    (squares-track h s t
    (blend-tracks h (blend-tracks h s (whole-tracks 0 0)) (blend-tracks (share-rest h) t (whole-tracks 0 0))))

pub routed-follows :
    {H : ℕ} (W : ℕ) {f : Fraction} {inflow old : Figures} {inflow* old* : ExactFigures}
    → Share H 3 f
    → Follows inflow inflow*
    → Follows old old*
    → Follows (routed H W inflow old) (exact_routed f W inflow* old*)
unfolding routed routed_discharge exact_routed
routed-follows W h i o =
    record {
      discharge = blend-tracks h o.discharge i.discharge;
      variance = variance-tracks W h i.variance o.variance;
    }
