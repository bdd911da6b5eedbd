-- `gain_of` meets its contract.
use mathlib.Core.Path.{refl}
use native.Mathlib.Omega.{arith}
use Rattle.units.specs.Units.{S}
use Rattle.method.specs.Correction.{gain}
use Rattle.gain.proofs.GainLaws.{part-le}
use Rattle.gain.proofs.gain_of.Goals as goal

pub returns : goal.returns
unfolding gain
returns c = (refl, part-le S _ _ (omega arith))
