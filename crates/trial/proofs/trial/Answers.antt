-- `trial` meets its contract.
use Rattle.table.proofs.HeldLaws.{table-accepted}
use Rattle.network.proofs.LentLaws.{lent-table, lent-table-refused}
use Rattle.entries.specs.Trials.{trial_answer}
use Rattle.record_step.proofs.StepLaws.{err-passed}
use Rattle.trial.proofs.trial.Goals as goal

pub returns-in_err-counts : goal.returns-in_err-counts
unfolding trial_answer
returns-in_err-counts c =
    rw (err-passed _ _ c.from_residual.ensures.1) (lent-table-refused _ _ _ _ c.in_err-counts.ensures)

pub trial_counted-requires : goal.trial_counted-requires
trial_counted-requires c = (table-accepted _ _ c.in_ok-counts.ensures).counted

pub returns : goal.returns
unfolding trial_answer
returns c = lent-table _ _ (table-accepted _ _ c.in_ok-counts.ensures).kept c.trial_counted.ensures
