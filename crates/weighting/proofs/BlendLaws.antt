-- Laws of the blend.
use Prim.Native.Nat.{ℕ, ◌+◌, ◌-◌, ◌*◌, ◌≤◌}
use mathlib.Core.Path.{◌≡◌, ap}
use native.Mathlib.Nat.{mul-le-mul_left, div-le_of_le-mul}
use native.Mathlib.Omega.{arith}
use Rattle.units.specs.Units.{S}
use Rattle.weighting.specs.Blend.{weighted_mean}

-- a weighted mean lies under whatever both numbers lie under
weighted-sum-le : (w x y b : ℕ) → w ≤ S → x ≤ b → y ≤ b → w * x + (S - w) * y ≤ S * b
weighted-sum-le w x y b h l m =
    let whole : w + (S - w) ≡ S = omega arith in
    omega (arith, mul-le-mul_left w l, mul-le-mul_left (S - w) m, ap (λ (t : ℕ). t * b) whole)

pub mean-le : (w x y b : ℕ) → w ≤ S → x ≤ b → y ≤ b → weighted_mean w x y ≤ b
unfolding weighted_mean
mean-le w x y b h l m =
    div-le_of_le-mul S {m = w * x + (S - w) * y} {n = b} (weighted-sum-le w x y b h l m)
