-- `piece_in_use_fits` meets its contract.
use Rattle.std.proofs.Common.{rules}
use Rattle.gauges.specs.Rules.{piece_in_use_fits}
use Rattle.curve_rules.proofs.CurveLaws.{offset-fits}
use Rattle.curve_rules.proofs.piece_in_use_fits.Goals.{then-below-piece, else-below-piece}
use Rattle.curve_rules.proofs.piece_in_use_fits.Goals as goal

pub returns-then-in_range : goal.returns-then-in_range
unfolding piece_in_use_fits
returns-then-in_range c = let o = offset-fits c.args.piece.offset in elim c.if-below-piece.branch [ then-below-piece w ↦ search rules | else-below-piece w ↦ search rules ]

pub returns-else-in_range : goal.returns-else-in_range
unfolding piece_in_use_fits
returns-else-in_range c = elim c.if-below-piece.branch [ then-below-piece w ↦ search rules | else-below-piece w ↦ search rules ]
