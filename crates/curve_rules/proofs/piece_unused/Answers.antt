-- `piece_unused` meets its contract.
use Rattle.gauges.specs.Rules.{piece_unused}
use Rattle.curve_rules.proofs.CurveLaws.{offset-zero}
use Rattle.curve_rules.proofs.piece_unused.Goals as goal

pub returns : goal.returns
unfolding piece_unused
returns c = rw (c.size.ensures, offset-zero c.args.piece.offset)
