-- The figures of the noise hold, all at once.
use Prim.Native.Nat.{ℕ}
use mathlib.Core.Path.{◌≡◌, refl}
use native.Mathlib.Omega.{arith}
use Rattle.rating.specs.Noise.{deviation, noise_of}
use Rattle.rating.specs.NoiseFigures.{NoiseFigures}

no-deviation : (z : ℕ) → deviation 0 z ≡ 0
unfolding deviation
no-deviation z = omega arith

no-beta : (R z : ℕ) → noise_of R 0 z ≡ R
unfolding noise_of
no-beta R z = rw (no-deviation z) (omega arith)

pub noise-figures : NoiseFigures
unfolding deviation noise_of
noise-figures =
    record {
      no-beta = no-beta;
      ten-per-cent = refl;
      deviation-first = refl;
      thirty_two = refl;
      at-ceiling = refl;
      above-ceiling = refl;
    }
