-- Laws of the noise of a reading.
use Prim.Native.Nat.{ℕ, ◌≤◌}
use native.Mathlib.Omega.{arith}
use Rattle.rating.specs.Noise.{noise_of}

-- no noise is below R
pub noise-least : (R beta z : ℕ) → R ≤ noise_of R beta z
unfolding noise_of
noise-least R beta z = omega arith
