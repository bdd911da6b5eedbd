-- `forecast` meets its contract.
use Rattle.table.proofs.HeldLaws.{table-accepted}
use Rattle.network.proofs.LentLaws.{lent-table, lent-table-refused}
use Rattle.entries.specs.Entries.{forecast_answer}
use Rattle.record_step.proofs.StepLaws.{err-passed}
use Rattle.engine.proofs.forecast.Goals as goal

pub returns-in_err-counts : goal.returns-in_err-counts
unfolding forecast_answer
returns-in_err-counts c = rw (err-passed _ _ c.from_residual.ensures.1) (lent-table-refused _ _ _ _ c.in_err-counts.ensures)

pub forecast_counted-requires : goal.forecast_counted-requires
forecast_counted-requires c = (table-accepted _ _ c.in_ok-counts.ensures).counted

pub returns : goal.returns
unfolding forecast_answer
returns c = lent-table _ _ (table-accepted _ _ c.in_ok-counts.ensures).kept c.forecast_counted.ensures
