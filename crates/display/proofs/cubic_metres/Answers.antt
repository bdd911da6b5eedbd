-- `cubic_metres` meets its contract.
use Rattle.display.specs.Display.{cubic_metres}
use Rattle.display.proofs.DisplayLaws.{count_held, divisor}
use Rattle.display.proofs.cubic_metres.Goals as goal

pub int_to_float-result : goal.int_to_float-result
int_to_float-result c = count_held _ c.requires

pub returns : goal.returns
unfolding cubic_metres
returns c = rw divisor
