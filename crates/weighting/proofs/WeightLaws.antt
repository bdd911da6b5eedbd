-- Laws of the series weight.
use Prim.Native.Nat.{ℕ, zero, suc, ◌+◌, ◌-◌, ◌*◌, ◌/◌, ◌≤◌, ◌<◌}
use mathlib.Core.Path.{◌≡◌, sym}
use native.Mathlib.Nat.{mul-le-mul_left, mul-le-mul_right, div-mul-le_self, lt-div-mul-add, div-le_of_le-mul, div-eq_of_lt-le, div-div-eq-div-mul}
use native.Mathlib.Omega.{arith}
use Rattle.units.specs.Units.{S}
use Rattle.weighting.specs.Weight.{turned, weight}

-- the quotient by lag, where q is one less than it
pub quotient-next : (x lag q : ℕ) → q * lag + lag ≤ x → x < q * lag + 2 * lag → q + 1 ≡ x / lag
quotient-next x lag q low high = sym (div-eq_of_lt-le lag (omega arith) (omega arith))

-- the code's SHARES
abbrev pub shares : ℕ
shares = 17_179_869_184

-- T / lag out of shares
abbrev pub share_of : ℕ → ℕ → ℕ
share_of T lag = T * shares / lag

-- T × h / lag, or one less, from that share
abbrev pub near : ℕ → ℕ → ℕ → ℕ
near T lag h = h * share_of T lag / shares

pub share-most : (T lag : ℕ) → T ≤ lag → share_of T lag ≤ shares
share-most T lag step = div-le_of_le-mul lag {m = T * shares} {n = shares} (mul-le-mul_right shares step)

module _ (T lag h : ℕ) where
  pub near-low : near T lag h * lag ≤ T * h
  near-low =
      omega (
        arith,
        mul-le-mul_right lag (div-mul-le_self (h * share_of T lag) shares),
        mul-le-mul_left h (div-mul-le_self (T * shares) lag),
      )

  pub near-high : 0 < lag → h ≤ S → T * h < near T lag h * lag + 2 * lag
  near-high some most =
      omega (
        arith,
        mul-le-mul_right lag (lt-div-mul-add {a = h * share_of T lag} {b = shares} (omega arith)),
        mul-le-mul_left h (lt-div-mul-add {a = T * shares} {b = lag} some),
        mul-le-mul_right lag most,
      )

turned-once : (T lag h m : ℕ) → 0 < m → turned T lag h m ≡ turned T lag (S - T * h / (lag * m)) (m - 1)
unfolding turned
turned-once T lag h zero l = absurd (omega arith)
turned-once T lag h (suc m) l = let e : suc m - 1 ≡ m = omega arith in rw e

-- one turn of the loop, where d is T × h / lag
module _ (T lag h m d : ℕ) (divided : d ≡ T * h / lag) where
  pub turned-again : 0 < m → turned T lag h m ≡ turned T lag (S - d / m) (m - 1)
  turned-again left = rw (divided, div-div-eq-div-mul (T * h) lag m) (turned-once T lag h m left)

-- a weight is at most S
turned-most : (T lag h m : ℕ) → h ≤ S → turned T lag h m ≤ S
unfolding turned
turned-most T lag h zero l = l
turned-most T lag h (suc m) l = turned-most T lag (S - T * h / (lag * suc m)) m (omega arith)

pub weight-most : (T lag : ℕ) → weight T lag ≤ S
unfolding weight
weight-most T lag = turned-most T lag S 12 (omega arith)
