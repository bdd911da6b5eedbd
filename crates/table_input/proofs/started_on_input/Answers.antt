-- `started_on_input` meets its contract.
use Rattle.table_input.proofs.StartsLaws.{started-input}
use Rattle.table_input.proofs.started_on_input.Goals as goal

pub returns : goal.returns
returns c =
    let e = c.table_length-length.ensures in record { within = e.within; started = started-input _ _ _ _ _ _ e c.start_on.ensures }
