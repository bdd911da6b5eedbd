-- `start` meets its contract.
use Rattle.table.proofs.HeldLaws.{table-accepted}
use Rattle.entries.specs.Entries.{start_answer}
use Rattle.engine.proofs.EntryLaws.{start-accepted, refused-by-table}
use Rattle.record_step.proofs.StepLaws.{err-passed}
use Rattle.engine.proofs.start.Goals as goal

pub returns-in_err-counts : goal.returns-in_err-counts
unfolding start_answer
returns-in_err-counts c = rw (err-passed _ _ c.from_residual.ensures.1) (refused-by-table _ _ _ _ c.in_err-counts.ensures)

pub start_on-requires : goal.start_on-requires
start_on-requires c =
    let k = table-accepted _ _ c.in_ok-counts.ensures in (k.counted.counted.table, k.counted.counted.held.elements)

pub returns : goal.returns
returns c = start-accepted _ _ _ (table-accepted _ _ c.in_ok-counts.ensures).kept c.start_on.ensures
