-- `wants_more` meets its contract.
use Rattle.input_parts.proofs.HoldLaws.{over-told, lacking-told}
use Rattle.input_parts.proofs.wants_more.Goals as goal

pub returns-then-over : goal.returns-then-over
returns-then-over c = over-told _ _ _ c.if-over.true

pub returns-then-judged : goal.returns-then-judged
returns-then-judged c = lacking-told _ _ _ c.if-over.false c.holds_record.ensures (rw c.if-judged.true)

pub returns : goal.returns
returns c = lacking-told _ _ _ c.if-over.false c.holds_table.ensures (rw c.if-judged.false)
