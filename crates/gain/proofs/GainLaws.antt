-- Laws of a gain as a part of a whole.
use Prim.Native.Nat.{ℕ, ◌*◌, ◌/◌, ◌≤◌}
use native.Mathlib.Nat.{mul-le-mul_right, div-le_of_le-mul}
use native.Mathlib.Omega.{arith}

-- a part of a number is at most the number
pub part-le : (a b t : ℕ) → b ≤ t → a * b / t ≤ a
part-le a b t h = div-le_of_le-mul t {m = a * b} {n = a} (omega (arith, mul-le-mul_right a h))
