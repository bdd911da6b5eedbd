-- `weighted_mean` meets its contract: its products stay below 2^64, and the mean under the ceiling.
use mathlib.Core.Path.{refl}
use Rattle.units.specs.Units.{C}
use Rattle.weighting.specs.Blend.{weighted_mean}
use Rattle.weighting.proofs.BlendLaws.{mean-le}
use Rattle.weighting.proofs.blend.weighted_mean.Goals as goal

pub returns : goal.returns
unfolding weighted_mean
returns c = (refl, mean-le _ _ _ C c.requires.0 c.requires.1.0 c.requires.1.1)
