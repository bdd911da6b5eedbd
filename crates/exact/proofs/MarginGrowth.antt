-- How much a blend adds to the margins.
use Prim.Native.Nat.{ℕ, ◌+◌, ◌≤◌}
use native.Mathlib.Omega.{arith}
use Rattle.units.specs.Units.{C, S}
use Rattle.weighting.specs.declared.Estimate.{Estimate}
use Rattle.weighting.proofs.BlendLaws.{mean-le}
use Rattle.weighting.specs.Blend.{gap_of, blended}

gap-at-most : (x y m : ℕ) → x ≤ m → y ≤ m → gap_of x y ≤ m
unfolding gap_of
gap-at-most x y m h l = omega arith

-- 3 × (C + 333,333,332) / S is 12
pub blend-growth :
    (w m : ℕ) (x y : Estimate)
    → w ≤ S
    → x.value ≤ C
    → y.value ≤ C
    → x.margin ≤ m
    → y.margin ≤ m
    → m ≤ 166_666_666
    → (blended w 3 x y).margin ≤ m + 15
unfolding blended
blend-growth w m x y most vx vy mx my small =
    omega (
      arith,
      mean-le w x.margin y.margin m most mx my,
      gap-at-most x.value y.value C vx vy,
    )
