-- `holds_record` meets its contract.
use Rattle.input_parts.proofs.HoldLaws.{record-told}
use Rattle.input_parts.proofs.holds_record.Goals as goal

pub returns : goal.returns
returns c = record-told _ _ c.read16.ensures.0 c.read16.ensures.1
