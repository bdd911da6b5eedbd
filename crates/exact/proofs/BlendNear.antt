-- A blend by a weight that is near a fraction, of estimates that track fractions, tracks the blend in fractions.
use Prim.Native.Nat.{ℕ, ◌+◌, ◌-◌, ◌*◌, ◌/◌, ◌≤◌}
use mathlib.Core.Path.{◌≡◌, subst}
use native.Mathlib.Nat.{mul-le-mul_right}
use native.Mathlib.Decide.{dec_le}
use native.Mathlib.Omega.{arith}
use Rattle.units.specs.Units.{S}
use Rattle.weighting.specs.declared.Estimate.{Estimate}
use Rattle.weighting.specs.Estimates.{estimate}
use Rattle.weighting.specs.Blend.{weighted_mean, gap_of, blended}
use Rattle.exact.specs.Fraction.{Fraction}
use Rattle.exact.specs.Exact.{exact_blend}
use Rattle.exact.specs.Margins.{Tracks}
use Rattle.exact.proofs.FractionParts.{Is, times, is_same, is_sum, is-product}
use Rattle.exact.proofs.Tracking.{Near, Both, both, tracks}
use Rattle.exact.proofs.Weights.{Share, is-rest, near-rest}

-- ---- the weight's error: the blends of a and b by w / S and by f / c

record Mixes (f k w u c g a b D : ℕ) : Type 0 where
  low : c * (w * a + u * b) ≤ S * (f * a + k * b) + g * c * D
  high : S * (f * a + k * b) ≤ c * (w * a + u * b) + g * c * D

mixes-down :
    (f k w u c g b t D : ℕ)
    → w + u ≡ S
    → f + k ≡ c
    → Near (estimate w g) (S * f) c
    → t ≤ D
    → Mixes f k w u c g (b + t) b D
mixes-down f k w u c g b t D e e' h l =
    omega (
      arith,
      times (c * b) e,
      times b e',
      mul-le-mul_right t h.low,
      mul-le-mul_right t h.high,
      mul-le-mul_right (g * c) l,
    )

mixes-up :
    (f k w u c g a t D : ℕ)
    → w + u ≡ S
    → f + k ≡ c
    → Near (estimate w g) (S * f) c
    → t ≤ D
    → Mixes f k w u c g a (a + t) D
mixes-up f k w u c g a t D e e' h l =
    omega (arith, mixes-down k f u w c g a t D (omega arith) (omega arith) (near-rest w u g f k c e e' h) l)

mixes :
    (f k w u c g a b D : ℕ)
    → w + u ≡ S
    → f + k ≡ c
    → Near (estimate w g) (S * f) c
    → a ≤ b + D
    → b ≤ a + D
    → Mixes f k w u c g a b D
mixes f k w u c g a b D e e' h l m = go (dec_le a b)
  where
    go : Dec (a ≤ b) → Mixes f k w u c g a b D
    go (yes p) =
        subst (λ (t : ℕ). Mixes f k w u c g a t D) (omega arith)
        (mixes-up f k w u c g a (b - a) D e e' h (omega arith))
    go (no p) =
        subst (λ (t : ℕ). Mixes f k w u c g t b D) (omega arith)
        (mixes-down f k w u c g b (a - b) D e e' h (omega arith))

-- ---- the values' errors, and how far apart the fractions may be

weighted-near :
    (w u : ℕ) (x y : Estimate) (a b d : ℕ)
    → Near x a d
    → Near y b d
    → Near (estimate (w * x.value + u * y.value) (w * x.margin + u * y.margin)) (w * a + u * b) d
weighted-near w u x y a b d h h' =
    omega (
      arith,
      mul-le-mul_right w h.low,
      mul-le-mul_right u h'.low,
      mul-le-mul_right w h.high,
      mul-le-mul_right u h'.high,
    )

gap-most : (x y : ℕ) → (x ≤ y + gap_of x y) × (y ≤ x + gap_of x y)
unfolding gap_of
gap-most x y = omega arith

apart :
    (x y : Estimate) (a b d : ℕ)
    → Near x a d
    → Near y b d
    → (a ≤ b + (gap_of x.value y.value + x.margin + y.margin) * d)
    × (b ≤ a + (gap_of x.value y.value + x.margin + y.margin) * d)
apart x y a b d h h' =
    omega (
      arith,
      h,
      h',
      mul-le-mul_right d (gap-most x.value y.value).0,
      mul-le-mul_right d (gap-most x.value y.value).1,
    )

-- ---- and three divisions that round down, of N, Q and R

round-law :
    (z y c d N Q R : ℕ)
    → c * y ≤ S * z + R * (c * d)
    → S * z ≤ c * y + R * (c * d)
    → Near (estimate N Q) y d
    → Near (estimate (N / S) (Q / S + R / S + 3)) z (c * d)
round-law z y c d N Q R l m h =
    omega (
      arith,
      mul-le-mul_right c h.low,
      mul-le-mul_right c h.high,
      mul-le-mul_right (c * d) down,
      mul-le-mul_right (c * d) (up N),
      mul-le-mul_right (c * d) (up Q),
      mul-le-mul_right (c * d) (up R),
    )
  where
    down : N / S * S ≤ N
    down = omega arith

    up : (n : ℕ) → n ≤ n / S * S + S
    up n = omega arith

blend-near :
    (w g : ℕ) (x y : Estimate) (f k c a b d : ℕ)
    → f + k ≡ c
    → w ≤ S
    → Near (estimate w g) (S * f) c
    → Near x a d
    → Near y b d
    → Near (blended w g x y) (f * a + k * b) (c * d)
unfolding blended weighted_mean
blend-near w g x y f k c a b d sum most h i j =
    round-law _ (w * a + (S - w) * b) c d _ _ (g * D) (omega (arith, mixed.low)) (omega (arith, mixed.high))
    (weighted-near w (S - w) x y a b d i j)
  where
    D : ℕ
    D = gap_of x.value y.value + x.margin + y.margin

    mixed : Mixes f k w (S - w) c g a b (D * d)
    mixed = mixes f k w (S - w) c g a b (D * d) (omega arith) sum h (apart x y a b d i j).0 (apart x y a b d i j).1

-- ---- the same of fractions

pub is-blend :
    {f x y : Fraction} {p c a b d : ℕ} (k : ℕ)
    → Is f p 0 c
    → p + k ≡ c
    → Is x a 0 d
    → Is y b 0 d
    → Is (exact_blend f x y) (p * a + k * b) 0 (c * d)
unfolding exact_blend
is-blend k i e j l = is_same (is_sum (is-product i j) (is-product (is-rest k i e) l)) (omega arith)

pub blend-tracks :
    {w g : ℕ} {f : Fraction} {x y : Estimate} {x* y* : Fraction}
    → Share w g f
    → Tracks x x*
    → Tracks y y*
    → Tracks (blended w g x y) (exact_blend f x* y*)
blend-tracks {w} {g} {f} {x} {y} {x*} {y*} h t u = go (both t u)
  where
    go : Both x y x* y* → Tracks (blended w g x y) (exact_blend f x* y*)
    go o =
        tracks (is-blend h.k h.is h.sum o.is o.is')
        (blend-near _ _ _ _ _ _ _ _ _ _ h.sum h.most h.near o.near o.near')
