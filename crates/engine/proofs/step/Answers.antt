-- `step` meets its contract.
use Rattle.table.proofs.HeldLaws.{table-accepted}
use Rattle.table.proofs.TableLaws.{rules-accepted}
use Rattle.state.proofs.AnswerLaws.{answered-as}
use Rattle.entries.specs.Entries.{step_answer}
use Rattle.engine.proofs.EntryLaws.{refused-by-table}
use Rattle.record_step.proofs.StepLaws.{err-passed}
use Rattle.engine.proofs.step.Goals as goal

pub returns-in_err-counts : goal.returns-in_err-counts
unfolding step_answer
returns-in_err-counts c = rw (err-passed _ _ c.from_residual.ensures.1) (refused-by-table _ _ _ _ c.in_err-counts.ensures)

pub step_counted-requires : goal.step_counted-requires
step_counted-requires c = (table-accepted _ _ c.in_ok-counts.ensures).counted

pub returns : goal.returns
unfolding step_answer
returns c = answered-as (rules-accepted _ _ (table-accepted _ _ c.in_ok-counts.ensures).kept) c.step_counted.ensures
