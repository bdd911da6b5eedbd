-- `next_answered` meets its contract.
use mathlib.Core.Path.{refl}
use Rattle.std.proofs.Common.{rules}
use Rattle.machine.proofs.AnswerLaws.{answered-as, records-stopped, record-answered}
use Rattle.machine.proofs.next_answered.Goals as goal

pub returns-then-p : goal.returns-then-p
returns-then-p c =
    answered-as c.after_stop.ensures (records-stopped _ _ _ _ _ _ c.requires.0 c.requires.1.1 c.if-p.true)

pub returns : goal.returns
returns c =
    answered-as c.after_record.ensures
    (record-answered _ _ _ _ _ _ c.requires.0 c.requires.1.1 _ c.requires.1.0 _ _ _ _ _ _ c.if-p.false c.record_length-size.ensures
    c.answer_record-ended.ensures refl refl (search rules))
