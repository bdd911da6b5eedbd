-- Laws of the display: a count and 1,000,000 are floats exactly, so that the one division gives the float nearest to their quotient.
use Prim.Native.Nat.{ℕ, ◌*◌, ◌^◌, ◌≤◌}
use mathlib.Core.Bool.{false}
use mathlib.Core.Path.{◌≡◌, refl}
use native.Mathlib.Nat.{mul-pos}
use native.Mathlib.Omega.{arith}
use lib.Dec.{T, le→leb}
use lib.IntN.{pos}
use lib.Ieee.{Float, nan, inf, fin, binary64, up, down, in_float, of_int, of_bits, round, div}
use lib.Ieee.Back.{round_whole}
use lib.Ieee.Exact.{HasValue}
use lib.Ieee.Fits.{down_pos}
use lib.Ieee.Scale.{round_same}
use Rattle.units.specs.Units.{C}
use Rattle.display.specs.Display.{cubic_metres}

-- "turned into a float exactly"
pub count_held : (n : ℕ) → n ≤ C → T (in_float binary64 (pos n))
unfolding in_float
count_held n h = le→leb n (2 ^ 53) (omega arith)

pub count-exact : (n : ℕ) → n ≤ C → HasValue (of_int binary64 (pos n)) false n 1
unfolding of_int
count-exact n h = round_whole binary64 false n (omega arith)

-- the divisor, by its bits in the code
million : of_int binary64 (pos 1_000_000) ≡ fin false 15625 (pos 6)
unfolding of_int
million = refl

pub divisor : of_bits binary64 0x412E_8480_0000_0000 ≡ of_int binary64 (pos 1_000_000)
unfolding of_int of_bits
divisor = refl

-- "divided once by 1,000,000": the float nearest to the quotient
pub shown-nearest : (n : ℕ) → n ≤ C → cubic_metres n ≡ round binary64 false n 1_000_000
unfolding cubic_metres div
shown-nearest n h = rw million (go (of_int binary64 (pos n)) (count-exact n h))
  where
    same : (m e d : ℕ) → m * e * 1 ≡ n * d → m * e * 1 * 1_000_000 ≡ n * (15625 * 2 ^ 6 * d)
    same m e d k = omega (arith, k)

    go : (x : Float) → HasValue x false n 1 → div binary64 x (fin false 15625 (pos 6)) ≡ round binary64 false n 1_000_000
    go nan v = absurd v
    go (inf s) v = absurd v
    go (fin s m e) v =
        rw v.0
        (round_same binary64 false (m * up e * 1) (15625 * 2 ^ 6 * down e) n 1_000_000 (mul-pos (omega arith) (down_pos e)) (omega arith)
        (same m (up e) (down e) v.1))
