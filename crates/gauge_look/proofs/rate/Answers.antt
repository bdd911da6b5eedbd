-- `rate` meets its contract.
use Rattle.table.proofs.HeldLaws.{table-accepted, counted-table}
use Rattle.table.proofs.TableLaws.{rules-accepted, rules-refused}
use Rattle.gauge_look.specs.GaugeLooks.{rating_after, rating_answer}
use Rattle.gauge_look.proofs.rate.Goals as goal

pub look_at_field-requires : goal.look_at_field-requires
look_at_field-requires c = counted-table _ _ (table-accepted _ _ c.in-Ok.ensures).counted.counted

pub returns-in-Ok : goal.returns-in-Ok
unfolding rating_after rating_answer
returns-in-Ok c = rw (rules-accepted _ _ (table-accepted _ _ c.in-Ok.ensures).kept) c.look_at_field.ensures

pub returns-in-Err : goal.returns-in-Err
unfolding rating_after rating_answer
returns-in-Err c = rw (rules-refused _ _ c.in-Err.ensures) c.no_look.ensures
