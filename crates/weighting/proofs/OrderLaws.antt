-- Quotients and weighted means keep the order of the numbers that they are made of.
use Prim.Native.Nat.{ℕ, zero, suc, ◌-◌, ◌/◌, ◌≤◌}
use mathlib.Core.Path.{◌≡◌}
use native.Mathlib.Nat.{le_refl, le_trans, add-le-add, mul-le-mul_left, div-zero, div-mul-le_self, le-div_iff_mul-le, zero-lt-suc}
use Rattle.units.specs.Units.{S}
use Rattle.weighting.specs.Blend.{weighted_mean}

pub quotient-order : (k : ℕ) {a b : ℕ} → a ≤ b → a / k ≤ b / k
quotient-order zero {a} {b} l = rw (div-zero a, div-zero b) (le_refl zero)
quotient-order (suc k) {a} {b} l =
    (le-div_iff_mul-le {k = suc k} {x = a / suc k} {y = b} (zero-lt-suc k)).1 (le_trans (div-mul-le_self a (suc k)) l)

-- by the same weight
pub mean-order : {w w* x y x* y* : ℕ} → w ≡ w* → x ≤ x* → y ≤ y* → weighted_mean w x y ≤ weighted_mean w* x* y*
unfolding weighted_mean
mean-order {w} same p q = rw (← same) (quotient-order S (add-le-add (mul-le-mul_left w p) (mul-le-mul_left (S - w) q)))
