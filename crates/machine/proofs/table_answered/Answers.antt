-- `table_answered` meets its contract.
use mathlib.Core.Path.{refl}
use Rattle.std.proofs.Common.{rules}
use Rattle.machine.proofs.AnswerLaws.{answered-as, table-room, copy-room, table-accepted, table-refused}
use Rattle.machine.proofs.table_answered.Goals as goal

pub slice_bounds-copy_from_slice-end : goal.slice_bounds-copy_from_slice-end
slice_bounds-copy_from_slice-end c =
    table-room _ _ _ _ _ _ c.requires.0 c.requires.1 _ _ _ c.started_on_input-started.ensures c.started_on_input-started.auto.weights _ c.in-Ok.is

pub slice_bounds-copy_from_slice-end-in-Ok : goal.slice_bounds-copy_from_slice-end-in-Ok
slice_bounds-copy_from_slice-end-in-Ok c =
    (copy-room _ _ _ _ _ _ c.requires.0 c.requires.1 _ _ _ c.started_on_input-started.ensures c.started_on_input-started.auto.weights _ c.in-Ok.is).0

pub copy_from_slice-requires : goal.copy_from_slice-requires
copy_from_slice-requires c =
    (copy-room _ _ _ _ _ _ c.requires.0 c.requires.1 _ _ _ c.started_on_input-started.ensures c.started_on_input-started.auto.weights _ c.in-Ok.is).1

pub returns-in-Ok : goal.returns-in-Ok
returns-in-Ok c =
    answered-as c.after_table.ensures
    (table-accepted _ _ _ _ _ _ c.requires.0 c.requires.1 _ _ _ c.started_on_input-started.ensures c.started_on_input-started.auto.weights
    _ c.in-Ok.is _ c.copy_from_slice.ensures.after)

pub returns-in-Err : goal.returns-in-Err
returns-in-Err c =
    answered-as c.after_refusal.ensures
    (table-refused _ _ _ _ _ _ c.requires.0 c.requires.1 _ _ _ c.started_on_input-started.ensures c.started_on_input-started.auto.weights
    _ c.in-Err.is c.answer_refusal.ensures refl refl (search rules))
