-- `record_length` meets its contract.
use Rattle.input_parts.proofs.RecordEndLaws.{record-end}
use Rattle.input_parts.proofs.record_length.Goals as goal

pub returns : goal.returns
returns c = rw c.min.ensures (record-end _ _ c.read16-counted.ensures.0)
