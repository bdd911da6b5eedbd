-- `noise_of` meets its contract.
use mathlib.Core.Path.{refl}
use Rattle.rating.specs.Noise.{deviation, noise_of}
use Rattle.rating.proofs.noise_of.Goals as goal

pub returns : goal.returns
unfolding noise_of deviation
returns c = refl
