-- `proceed` meets its contract.
use Rattle.machine.proofs.TurnLaws.{turn-write, turn_end, turn-read, answer-due, turn-answer}
use Rattle.machine.proofs.proceed.Goals as goal

pub returns-then-text_due : goal.returns-then-text_due
returns-then-text_due c =
    turn-write _ _ _ _ _ _ c.requires.0 _ _ _ c.wants_more-wants.ensures c.has_ended-ended.ensures c.text_due.ensures _
    c.if-text_due.true c.after_write.ensures

pub returns-then-ended : goal.returns-then-ended
returns-then-ended c =
    turn_end _ _ _ _ _ _ c.requires.0 _ _ _ c.wants_more-wants.ensures c.has_ended-ended.ensures c.text_due.ensures
    c.if-text_due.false c.if-ended.true

pub returns-then-wants : goal.returns-then-wants
returns-then-wants c =
    turn-read _ _ _ _ _ _ c.requires.0 _ _ _ c.wants_more-wants.ensures c.has_ended-ended.ensures c.text_due.ensures _ _
    c.if-text_due.false c.if-ended.false c.if-wants.true c.moved_front-progress.ensures c.moved_front-progress.auto.input

pub answered-requires : goal.answered-requires
answered-requires c = (
  c.requires.0,
  (
    c.requires.1,
    answer-due _ _ _ _ _ _ c.requires.0 _ _ _ c.wants_more-wants.ensures c.has_ended-ended.ensures c.text_due.ensures
        c.if-text_due.false c.if-ended.false c.if-wants.false,
  ),
)

pub returns : goal.returns
returns c =
    turn-answer _ _ _ _ _ _ c.requires.0 _ _ _ c.wants_more-wants.ensures c.has_ended-ended.ensures c.text_due.ensures _ _ _ _ _ _
    c.if-text_due.false c.if-ended.false c.if-wants.false c.answered.ensures
