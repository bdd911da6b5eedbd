-- `offset_of` meets its contract.
use Rattle.std.proofs.Common.{rules}
use Rattle.gauges.specs.Gauges.{offset_of}
use Rattle.gauges.proofs.offset_of.Goals as goal

pub returns-then-field-lt32768 : goal.returns-then-field-lt32768
unfolding offset_of
returns-then-field-lt32768 c = search rules

pub returns : goal.returns
unfolding offset_of
returns c = search rules
