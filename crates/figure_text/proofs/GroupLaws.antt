-- Laws of the groups of four digits.
use Prim.Native.Nat.{ℕ, ◌+◌, ◌*◌, ◌-◌, ◌/◌, ◌%◌, ◌≤◌, ◌<◌}
use mathlib.Core.List.{[], ◌∷◌, ◌++◌}
use mathlib.Core.Path.{◌≡◌, ◌∙◌}
use native.Mathlib.Omega.{arith}
use lib.ListN.{take}
use lib.Seq.{take_at}
use Rattle.text.specs.Decimal.{decimal, last_digits}
use Rattle.text.proofs.DecimalLaws.{decimal-3, decimal-four, length-last_digits}

-- all groups but the last one, and this
pub upper-and-last : (x : ℕ) → 10000 ≤ x → x < 1000000000000 → decimal (x / 10000) ++ last_digits 4 (x - 10000 * (x / 10000)) ≡ decimal x
upper-and-last x h k =
    let e : x - 10000 * (x / 10000) ≡ x % 10000 = omega arith in
    rw e (decimal-four x h k)

-- a number of three digits: the first three of four
pub first-three : (n : ℕ) → 100 ≤ n → n < 1000 → take 3 (last_digits 4 (10 * n)) ≡ decimal n
unfolding last_digits
first-three n h k =
    let e : 10 * n / 10 ≡ n = omega arith in
    let p = length-last_digits 3 n in
    rw e (take_at (last_digits 3 n) ((48 + 10 * n % 10) ∷ []) 3 p ∙ decimal-3 n h k)
