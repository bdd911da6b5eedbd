-- The weight is within 3 of S × F, and F is from 0 to 1. The power sum F equals its nested form
-- 1 − (t / 1) (1 − (t / 2) (.. (1 − t / 12))), with t = T / lag, which the cabinet turns by turn rounds.
use Prim.Native.Nat.{ℕ, zero, suc, ◌+◌, ◌-◌, ◌*◌, ◌/◌, ◌<◌, ◌≤◌}
use mathlib.Core.Path.{◌≡◌, refl}
use native.Mathlib.Nat.{mul-pos, mul-le-mul, mul-le-mul_right, div-le_of_le-mul, div-mul-le_self, lt-div-mul-add}
use native.Mathlib.Omega.{arith}
use Rattle.units.specs.Units.{S}
use Rattle.weighting.specs.Estimates.{estimate}
use Rattle.weighting.proofs.WeightLaws.{weight-most}
use Rattle.weighting.specs.Weight.{turned, weight}
use Rattle.exact.specs.Fraction.{Fraction, whole, minus, ◌⊕◌, ◌⊘◌}
use Rattle.exact.specs.Series.{power, factorial, sum, series_term, F}
use Rattle.exact.proofs.FractionParts.{Is, times, is-also, is_same, is-lower, is-scaled, is_whole, is_sum, is-product, is-minus, is-quotient}
use Rattle.exact.proofs.Tracking.{Near}
use Rattle.exact.proofs.Weights.{Share}

-- ---- one turn, from an error of at most 2 to one of at most e

turn-law :
    (T c d h h' q n n' e : ℕ)
    → Near (estimate h 2) (S * n) d
    → n' + T * n ≡ c * d
    → q * c ≤ T * h
    → T * h ≤ q * c + c
    → h' + q ≡ S
    → 2 * T + c ≤ e * c
    → Near (estimate h' e) (S * n') (c * d)
turn-law T c d h h' q n n' e a b f g s k =
    omega (
      arith,
      mul-le-mul_right T a.low,
      mul-le-mul_right T a.high,
      mul-le-mul_right d f,
      mul-le-mul_right d g,
      times (c * d) s,
      mul-le-mul_right d k,
    )

turn_near :
    (T c d h n n' e : ℕ)
    → 0 < c
    → T ≤ c
    → h ≤ S
    → Near (estimate h 2) (S * n) d
    → n' + T * n ≡ c * d
    → 2 * T + c ≤ e * c
    → Near (estimate (S - T * h / c) e) (S * n') (c * d)
turn_near T c d h n n' e some t most a b k =
    turn-law T c d h (S - T * h / c) (T * h / c) n n' e a b (div-mul-le_self (T * h) c)
    (omega (arith, lt-div-mul-add {a = T * h} some))
    (omega (arith, div-le_of_le-mul c {m = T * h} {n = S} (mul-le-mul t most)))
    k

-- ---- the numbers of the nested form and of the powers

-- 1 − (t / (m + 1)) (1 − (t / (m + 2)) (.. (1 − t / (m + k)))) is nested_upper / nested_lower
nested_lower : ℕ → ℕ → ℕ → ℕ
nested_lower lag m zero = 1
nested_lower lag m (suc k) = lag * suc m * nested_lower lag (suc m) k

nested_upper : ℕ → ℕ → ℕ → ℕ → ℕ
nested_upper T lag m zero = 1
nested_upper T lag m (suc k) = lag * suc m * nested_lower lag (suc m) k - T * nested_upper T lag (suc m) k

-- (−T) to the power m is the first less the second
signed_power : ℕ → ℕ → ℕ × ℕ
signed_power T zero = (1, 0)
signed_power T (suc m) = ((signed_power T m).1 * T, (signed_power T m).0 * T)

lag_power : ℕ → ℕ → ℕ
lag_power lag zero = 1
lag_power lag (suc m) = lag_power lag m * lag

factorial-some : (m : ℕ) → 0 < factorial m
unfolding factorial
factorial-some zero = omega arith
factorial-some (suc m) = mul-pos (factorial-some m) (omega arith)

-- the sum from term m on, by the term p − n over l and the sum from the next term on
sum_step :
    {x y : Fraction} (p n l T a a' D : ℕ)
    → Is x p n l
    → Is y (n * T * a') (p * T * a') (l * D)
    → 0 < D
    → a + T * a' ≡ D
    → Is (x ⊕ y) (p * a) (n * a) (l * D)
sum_step p n l T a a' D i j h e = is_same (is_sum (is-scaled D h i) j) (omega (arith, times p e, times n e))

lower-law : (l f lag m d : ℕ) → l * lag * (f * suc m) * d ≡ l * f * (lag * suc m * d)
lower-law l f lag m d = omega arith

module _ (T lag : ℕ) (le : T ≤ lag) (some : 0 < lag) where
  divisor-some : (m : ℕ) → 0 < lag * suc m
  divisor-some m = mul-pos some (omega arith)

  lower-some : (m k : ℕ) → 0 < nested_lower lag m k
  unfolding nested_lower
  lower-some m zero = omega arith
  lower-some m (suc k) = mul-pos (divisor-some m) (lower-some (suc m) k)

  upper-at-most : (m k : ℕ) → nested_upper T lag m k ≤ nested_lower lag m k
  unfolding nested_upper nested_lower
  upper-at-most m zero = omega arith
  upper-at-most m (suc k) = omega arith

  -- so the difference that makes an upper number is never cut at 0
  upper-turn :
      (m k : ℕ)
      → nested_upper T lag m (suc k) + T * nested_upper T lag (suc m) k ≡ lag * suc m * nested_lower lag (suc m) k
  unfolding nested_upper
  upper-turn m k = omega (arith, mul-le-mul le (upper-at-most (suc m) k))

  -- ---- F is the nested form

  is_base : Is (minus (whole T) ⊘ whole lag) 0 T lag
  is_base = is-also (is-quotient (is-minus (is_whole T)) (is_whole lag) some) some (omega arith)

  is-power :
      (m : ℕ)
      → Is (power (minus (whole T) ⊘ whole lag) m) (signed_power T m).0 (signed_power T m).1 (lag_power lag m)
  unfolding power signed_power lag_power
  is-power zero = is_whole 1
  is-power (suc m) = is-also (is-product (is-power m) is_base) (mul-pos (is-power m).some some) (omega arith)

  is-term : (m : ℕ) → Is (series_term T lag m) (signed_power T m).0 (signed_power T m).1 (lag_power lag m * factorial m)
  unfolding series_term
  is-term m =
      is-also (is-quotient (is-power m) (is_whole (factorial m)) (factorial-some m))
      (mul-pos (is-power m).some (factorial-some m))
      (omega arith)

  is-series :
      (m k : ℕ)
      → Is (sum (series_term T lag) m k) ((signed_power T m).0 * nested_upper T lag m k)
      ((signed_power T m).1 * nested_upper T lag m k)
      (lag_power lag m * factorial m * nested_lower lag m k)
  unfolding sum nested_upper nested_lower signed_power lag_power factorial
  is-series m zero = is-also (is-term m) (mul-pos (is-term m).some (omega arith)) (omega arith)
  is-series m (suc k) =
      sum_step _ _ _ T _ (nested_upper T lag (suc m) k) _ (is-term m)
      (is-lower (is-series (suc m) k) (lower-law (lag_power lag m) (factorial m) lag m (nested_lower lag (suc m) k)))
      (lower-some m (suc k))
      (upper-turn m k)

  is-F : Is (F T lag) (nested_upper T lag 0 12) 0 (nested_lower lag 0 12)
  unfolding F signed_power lag_power factorial
  is-F = is-also (is-series _ _) (lower-some 0 12) (omega arith)

  -- ---- and the weight is near it

  next-near :
      (m k h e : ℕ)
      → h ≤ S
      → Near (estimate h 2) (S * nested_upper T lag (suc m) k) (nested_lower lag (suc m) k)
      → 2 * T + lag * suc m ≤ e * (lag * suc m)
      → Near (estimate (S - T * h / (lag * suc m)) e) (S * nested_upper T lag m (suc k)) (nested_lower lag m (suc k))
  unfolding nested_lower
  next-near m k h e most a =
      turn_near T (lag * suc m) (nested_lower lag (suc m) k) h (nested_upper T lag (suc m) k) _ e (divisor-some m)
      (omega arith) most a (upper-turn m k)

  -- before the last turn the error is at most 2
  turned-near :
      (m k n h : ℕ)
      → suc m + k ≡ n
      → h ≤ S
      → Near (estimate h 2) (S * nested_upper T lag (suc m) k) (nested_lower lag (suc m) k)
      → Near (estimate (turned T lag h (suc m)) 3) (S * nested_upper T lag 0 n) (nested_lower lag 0 n)
  unfolding turned
  turned-near zero k n h e most a =
      let e' : suc k ≡ n = omega arith in
      rw (← e') (next-near 0 k h 3 most a (omega arith))
  turned-near (suc m) k n h e most a =
      turned-near m (suc k) n (S - T * h / (lag * suc (suc m))) (omega arith) (omega arith)
      (next-near (suc m) k h 2 most a (omega arith))

  weight-close : Near (estimate (weight T lag) 3) (S * nested_upper T lag 0 12) (nested_lower lag 0 12)
  unfolding weight nested_upper nested_lower
  weight-close = turned-near 11 0 12 S refl (omega arith) (omega arith)

  pub weight-share : Share (weight T lag) 3 (F T lag)
  weight-share =
      record {
        p = nested_upper T lag 0 12;
        k = nested_lower lag 0 12 - nested_upper T lag 0 12;
        c = nested_lower lag 0 12;
        is = is-F;
        sum = omega (arith, upper-at-most 0 12);
        near = weight-close;
        most = weight-most T lag;
      }
