-- Document 02, M-105: figures to try, as facts about the noise.
use Rattle.std.specs.Prelude.{ℕ, ◌+◌, ◌≡◌}
use Rattle.units.specs.Units.{C}
use Rattle.rating.specs.Noise.{noise_of}

pub record NoiseFigures : Type 0 where
  -- "version 1 means β 0": R alone
  pub no-beta : (R z : ℕ) → noise_of R 0 z ≡ R
  -- R 1,000, β 100, 400 m³/s: t is 40 m³/s
  pub ten-per-cent : noise_of 1_000 100 400_000_000 ≡ 1_601_000
  -- β 1, 31.999999 m³/s: t is 31 and t × t 961; not rounded first, t × t / 1,000 would be 1
  pub deviation-first : noise_of 1 1 31_999_999 ≡ 1
  pub thirty_two : noise_of 1 1 32_000_000 ≡ 2
  -- the ceiling, and 1 above it, which 16 refuses
  pub at-ceiling : noise_of 4_000 500 3_999_998_000 ≡ C
  pub above-ceiling : noise_of 1 500 C ≡ C + 1
