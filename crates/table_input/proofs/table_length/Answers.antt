-- `table_length` meets its contract.
use Rattle.table_input.proofs.StartsLaws.{too_long, table-end}
use Rattle.table_input.proofs.table_length.Goals as goal

pub returns-then-counted : goal.returns-then-counted
returns-then-counted c = too_long _ _ c.read32-counted.ensures.0 c.if-counted.true

pub returns : goal.returns
returns c = rw c.min.ensures (table-end _ _ c.read32-counted.ensures.0 c.if-counted.false)
