-- `holds_table` meets its contract.
use Rattle.input_parts.proofs.HoldLaws.{table-short, table-long, table-told}
use Rattle.input_parts.proofs.holds_table.Goals as goal

pub returns-then-size-lt4 : goal.returns-then-size-lt4
returns-then-size-lt4 c = table-short _ c.if-size-lt4.true

pub returns-then-counted : goal.returns-then-counted
returns-then-counted c = table-long _ _ c.read32-counted.ensures.0 c.if-size-lt4.false c.if-counted.true

pub returns : goal.returns
returns c = table-told _ _ c.read32-counted.ensures.0 c.if-size-lt4.false c.if-counted.false
