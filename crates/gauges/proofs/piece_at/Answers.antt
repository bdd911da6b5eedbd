-- `piece_at` meets its contract.
use Rattle.std.proofs.Common.{rules}
use Rattle.gauges.specs.Gauges.{piece_at}
use Rattle.gauges.proofs.piece_at.Goals as goal

pub returns : goal.returns
unfolding piece_at
returns c = search rules
