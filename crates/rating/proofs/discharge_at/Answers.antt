-- `discharge_at` meets its contract.
use Rattle.std.proofs.Common.{rules}
use Rattle.rating.specs.Rating.{discharge_at}
use Rattle.units.specs.Ceiling.{under_ceiling, some_passes}
use Rattle.rating.proofs.discharge_at.Goals as goal

pub returns : goal.returns
unfolding discharge_at under_ceiling some_passes
returns c = let k = c.new.ensures in search rules
