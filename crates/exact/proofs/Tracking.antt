-- Estimates that stay within their margins of fractions, in numbers: `Near e p d` says it of the fraction p / d.
use Prim.Native.Nat.{ℕ, ◌+◌, ◌*◌, ◌/◌, ◌<◌, ◌≤◌}
use native.Mathlib.Nat.{add-zero, mul-pos, mul-le-mul_right}
use native.Mathlib.Omega.{arith}
use Rattle.weighting.specs.declared.Estimate.{Estimate}
use Rattle.weighting.specs.Estimates.{estimate}
use Rattle.exact.specs.Fraction.{Fraction, whole, ◌⊕◌, ◌⊘◌, ◌≼◌, Within}
use Rattle.exact.specs.Margins.{Tracks}
use Rattle.exact.proofs.SignedParts.{positive}
use Rattle.exact.proofs.FractionParts.{
  Is,
  is-also,
  is_whole,
  is-whole-over,
  is_sum,
  is-difference,
  is-quotient,
  is-own,
  at_most,
  at-most-back,
}

pub record Near (e : Estimate) (p d : ℕ) : Type 0 where
  pub low : e.value * d ≤ p + e.margin * d
  pub high : p ≤ (e.value + e.margin) * d

-- ---- to and from the definitions of specs/

module _ {x : Fraction} {p d : ℕ} (i : Is x p 0 d) where
  over : (k : ℕ) → Is (whole k) (k * d) 0 d
  over k = is-whole-over k i.some

  pub within : {e : Estimate} → Near e p d → Within e.value x e.margin
  within {e} h =
      record {
        below = at_most (is-difference (over e.value) i) (over e.margin) (omega (arith, h));
        above = at_most (is-difference i (over e.value)) (over e.margin) (omega (arith, h));
      }

  pub near : {e : Estimate} → Within e.value x e.margin → Near e p d
  near {e} w =
      omega (
        arith,
        at-most-back (is-difference (over e.value) i) (over e.margin) w.below,
        at-most-back (is-difference i (over e.value)) (over e.margin) w.above,
      )

  pub not-below-0 : whole 0 ≼ x
  not-below-0 = at_most (over 0) i (omega arith)

  pub tracks : {e : Estimate} → Near e p d → Tracks e x
  tracks h = record { least = not-below-0; within = within h }

-- the fraction that an estimate tracks is p / d
pub record Known (e : Estimate) (x : Fraction) : Type 0 where
  pub p : ℕ
  pub d : ℕ
  pub is : Is x p 0 d
  pub near : Near e p d

pub known : {e : Estimate} {x : Fraction} → Tracks e x → Known e x
known {x = x} t = record { p = positive x.upper; d = x.lower; is = own; near = near own t.within }
  where
    own : Is x (positive x.upper) 0 x.lower
    own = is-own x t.least

-- two of them, a / d and b / d, over one lower number
pub record Both (e e' : Estimate) (x y : Fraction) : Type 0 where
  pub a : ℕ
  pub b : ℕ
  pub d : ℕ
  pub is : Is x a 0 d
  pub is' : Is y b 0 d
  pub near : Near e a d
  pub near' : Near e' b d

pub both : {e e' : Estimate} {x y : Fraction} → Tracks e x → Tracks e' y → Both e e' x y
both {e} {e'} {x} {y} t u = go (known t) (known u)
  where
    go : Known e x → Known e' y → Both e e' x y
    go k l =
        record {
          a = k.p * l.d;
          b = l.p * k.d;
          d = k.d * l.d;
          is = i;
          is' = j;
          near = near i t.within;
          near' = near j u.within;
        }
      where
        i : Is x (k.p * l.d) 0 (k.d * l.d)
        i = is-also k.is (mul-pos k.is.some l.is.some) (omega arith)

        j : Is y (l.p * k.d) 0 (k.d * l.d)
        j = is-also l.is (mul-pos k.is.some l.is.some) (omega arith)

-- another fraction of the same value
pub tracks_same : {e : Estimate} {x y : Fraction} {p d : ℕ} → Is x p 0 d → Is y p 0 d → Tracks e x → Tracks e y
tracks_same i j t = tracks j (near i t.within)

-- ---- what is tracked

pub whole-tracks : (n e : ℕ) → Tracks (estimate n e) (whole n)
whole-tracks n e = tracks (is_whole n) (omega arith)

-- q is n / c, rounded down
pub record Floor (q n c : ℕ) : Type 0 where
  pub some : 0 < c
  pub low : q * c ≤ n
  pub high : n ≤ q * c + c

pub floor-tracks : {q n c : ℕ} → Floor q n c → Tracks (estimate q 1) (whole n ⊘ whole c)
floor-tracks {n = n} {c = c} f =
    tracks {p = n} {d = c} (is-also (is-quotient (is_whole n) (is_whole c) f.some) f.some (omega arith))
    (omega (arith, f))

pub sum-tracks :
    {e e' : Estimate} {x y : Fraction}
    → Tracks e x
    → Tracks e' y
    → Tracks (estimate (e.value + e'.value) (e.margin + e'.margin)) (x ⊕ y)
sum-tracks {e} {e'} {x} {y} t u = go (both t u)
  where
    go : Both e e' x y → Tracks (estimate (e.value + e'.value) (e.margin + e'.margin)) (x ⊕ y)
    go o = tracks (is_sum o.is o.is') (omega (arith, o.near, o.near'))

-- a whole number more
pub plus-tracks :
    {e : Estimate} {x : Fraction} (k : ℕ) → Tracks e x → Tracks (estimate (e.value + k) e.margin) (x ⊕ whole k)
plus-tracks k t = rw add-zero at (sum-tracks t (whole-tracks k 0))

-- half of it, rounded down: the value's half and the margin's half each lose at most one half
half-near : (e : Estimate) (p d : ℕ) → Near e p d → Near (estimate (e.value / 2) (e.margin / 2 + 1)) p (d * 2)
half-near e p d h =
    let low : e.value / 2 * 2 ≤ e.value = omega arith in
    let high : e.value ≤ e.value / 2 * 2 + 1 = omega arith in
    let most : e.margin ≤ e.margin / 2 * 2 + 1 = omega arith in
    omega (arith, h, mul-le-mul_right d low, mul-le-mul_right d high, mul-le-mul_right d most)

pub half-tracks : {e : Estimate} {x : Fraction} → Tracks e x → Tracks (estimate (e.value / 2) (e.margin / 2 + 1)) (x ⊘ whole 2)
half-tracks {e} {x} t = go (known t)
  where
    go : Known e x → Tracks (estimate (e.value / 2) (e.margin / 2 + 1)) (x ⊘ whole 2)
    go k =
        tracks (is-also (is-quotient k.is (is_whole 2) (omega arith)) (mul-pos k.is.some (omega arith)) (omega arith))
        (half-near e k.p k.d k.near)
