-- The correction by a reading stays within its margins of the correction in fractions.
use Prim.Native.Nat.{ℕ, ◌+◌, ◌*◌, ◌/◌, ◌<◌, ◌≤◌, min}
use mathlib.Core.Path.{◌≡◌, refl, subst}
use native.Mathlib.Nat.{
  mul_comm,
  mul-pos,
  mul-le-mul_right,
  le_of_mul-le-mul_right,
  div-le_of_le-mul,
  div-mul-le_self,
  lt-div-mul-add,
}
use native.Mathlib.Decide.{dec_le}
use native.Mathlib.Omega.{arith}
use Rattle.units.specs.Units.{S}
use Rattle.weighting.specs.declared.Estimate.{Estimate}
use Rattle.method.specs.declared.Figures.{Figures}
use Rattle.weighting.specs.Estimates.{estimate}
use Rattle.method.specs.Figures.{variance}
use Rattle.method.specs.Correction.{gain, gain_margin, corrected_discharge, corrected_variance, corrected}
use Rattle.exact.specs.Fraction.{Fraction, whole, ◌⊕◌, ◌⊖◌, ◌⊗◌, ◌⊘◌}
use Rattle.exact.specs.Exact.{ExactFigures, exact_blend, exact_gain, exact_corrected}
use Rattle.exact.specs.Margins.{Tracks, Follows}
use Rattle.exact.proofs.FractionParts.{
  Is,
  times,
  is-also,
  is_same,
  is_whole,
  is-whole-over,
  is_sum,
  is-product,
  is-difference,
  is-quotient,
}
use Rattle.exact.proofs.Tracking.{Near, Known, known, Both, both, tracks, tracks_same}
use Rattle.exact.proofs.Weights.{Share, is-rest, share-rest}
use Rattle.exact.proofs.BlendNear.{is-blend, blend-tracks}

-- ---- [Z P / (P + R)] beside Z p / (p + R d), for the gain with Z = S and for the variance with Z = R

rounded-near :
    (Z P D B p c : ℕ)
    → 0 < B
    → P * c ≤ p * B + D * c
    → p * B ≤ (P + D) * c
    → Near (estimate (Z * P / B) (Z * D / B + 2)) (Z * p) c
rounded-near Z P D B p c some l h =
    record {
      low =
          le_of_mul-le-mul_right {k = B}
          (omega (
            arith,
            mul-le-mul_right Z l,
            mul-le-mul_right c (div-mul-le_self (Z * P) B),
            mul-le-mul_right c (up (Z * D)),
          ))
          some;
      high =
          le_of_mul-le-mul_right {k = B}
          (omega (arith, mul-le-mul_right Z h, mul-le-mul_right c (up (Z * P)), mul-le-mul_right c (up (Z * D))))
          some;
    }
  where
    up : (n : ℕ) → n ≤ n / B * B + B
    up n = omega (arith, lt-div-mul-add {a = n} some)

quotient-near :
    (Z R : ℕ) (v : Estimate) (p d : ℕ)
    → 0 < R
    → Near v p d
    → Near (estimate (Z * v.value / (v.value + R)) (Z * v.margin / (v.value + R) + 2)) (Z * p) (p + R * d)
quotient-near Z R v p d r h =
    rounded-near Z v.value v.margin (v.value + R) p (p + R * d) (omega arith)
    (omega (arith, mul-le-mul_right R h.low))
    (omega (arith, mul-le-mul_right R h.high))

-- ---- the gain

-- a weight from 0 to S and a share from 0 to 1 are never more than S apart
capped-near : (K m p c : ℕ) → K ≤ S → p ≤ c → Near (estimate K m) (S * p) c → Near (estimate K (min S m)) (S * p) c
capped-near K m p c most l h = go (dec_le S m)
  where
    go : Dec (S ≤ m) → Near (estimate K (min S m)) (S * p) c
    go (yes q) = subst (λ (e : ℕ). Near (estimate K e) (S * p) c) (omega arith) wide
      where
        wide : Near (estimate K S) (S * p) c
        wide = omega (arith, mul-le-mul_right c most)
    go (no q) = subst (λ (e : ℕ). Near (estimate K e) (S * p) c) (omega arith) h

gain-most : (R P : ℕ) → gain R P ≤ S
unfolding gain
gain-most R P = div-le_of_le-mul (P + R) {m = S * P} {n = S} (omega arith)

module _ {v : Fraction} {p d R : ℕ} (r : 0 < R) (i : Is v p 0 d) where
  noise-some : 0 < R * d
  noise-some = mul-pos r i.some

  is-total : (k : ℕ) → Is (v ⊕ whole k) (p + k * d) 0 d
  is-total k = is_sum i (is-whole-over k i.some)

  is-gain : Is (exact_gain R v) p 0 (p + R * d)
  unfolding exact_gain
  is-gain = is-also (is-quotient i (is-total _) (omega (arith, noise-some))) (omega (arith, noise-some)) (omega arith)

  is-left : Is (v ⊗ whole R ⊘ (v ⊕ whole R)) (R * p) 0 (p + R * d)
  is-left =
      is-also (is-quotient (is-product i (is_whole R)) (is-total R) (omega (arith, noise-some)))
      (omega (arith, noise-some))
      (omega arith)

gain-share :
    {v : Estimate} {v* : Fraction} (R : ℕ)
    → 0 < R
    → Known v v*
    → Share (gain R v.value) (gain_margin R v) (exact_gain R v*)
unfolding gain gain_margin
gain-share {v} R r t =
    record {
      p = t.p;
      k = R * t.d;
      c = t.p + R * t.d;
      is = is-gain r t.is;
      sum = refl;
      near =
          capped-near _ _ t.p (t.p + R * t.d) (gain-most R v.value) (omega arith)
          (quotient-near S R v t.p t.d r t.near);
      most = gain-most R v.value;
    }

-- ---- the discharge

is-moved :
    {g x z : Fraction} {p c a b e : ℕ} (k : ℕ)
    → Is g p 0 c
    → p + k ≡ c
    → Is x a 0 e
    → Is z b 0 e
    → Is (x ⊕ g ⊗ (z ⊖ x)) (k * a + p * b) 0 (c * e)
is-moved {c = c} {a = a} k i s j l =
    is_same
    (is_sum (is-also {p' = a * c} {n' = 0} j (mul-pos i.some j.some) (omega arith))
    (is-product i (is-difference l j)))
    (omega (arith, times a s))

-- x + g (z − x) is (1 − g) x + g z
moved-tracks :
    {w m : ℕ} {g : Fraction} {x z e : Estimate} {x* z* : Fraction}
    → Share w m g
    → Tracks x x*
    → Tracks z z*
    → Tracks e (exact_blend (whole 1 ⊖ g) x* z*)
    → Tracks e (x* ⊕ g ⊗ (z* ⊖ x*))
moved-tracks {g = g} {x = x} {z = z} {e = e} {x* = x*} {z* = z*} h t u b = go (both t u)
  where
    go : Both x z x* z* → Tracks e (x* ⊕ g ⊗ (z* ⊖ x*))
    go o =
        tracks_same (is-blend h.p (is-rest h.k h.is h.sum) (omega (arith, h.sum)) o.is o.is')
        (is-moved h.k h.is h.sum o.is o.is') b

-- ---- the variance

variance-tracks :
    {v : Estimate} {v* : Fraction} (R : ℕ)
    → 0 < R
    → Known v v*
    → Tracks (corrected_variance R v) (v* ⊗ whole R ⊘ (v* ⊕ whole R))
unfolding corrected_variance
variance-tracks {v} R r t =
    tracks (is-left r t.is)
    (rw (mul_comm v.value R, mul_comm v.margin R) (quotient-near R R v t.p t.d r t.near))

pub corrected-follows :
    {R z : ℕ} {z* : Fraction} {x : Figures} {x* : ExactFigures}
    → 0 < R
    → Tracks (estimate z 1) z*
    → Follows x x*
    → Follows (corrected R z x) (exact_corrected R z* x*)
unfolding corrected exact_corrected corrected_discharge
corrected-follows {R} {x = x} {x* = x*} r t f =
    record {
      discharge = moved-tracks g f.discharge t (blend-tracks (share-rest g) f.discharge t);
      variance = variance-tracks R r (known f.variance);
    }
  where
    g : Share (gain R x.variance.0) (gain_margin R (variance x)) (exact_gain R x*.variance)
    g = gain-share R r (known f.variance)
