-- `judge_step` meets its contract.
use mathlib.Core.Path.{sym, ◌∙◌}
use Rattle.record_step.proofs.StepLaws.{limit-judged, record-judged}
use Rattle.record_step.proofs.judge_step.Goals as goal

pub returns-then-not-steps_left : goal.returns-then-not-steps_left
returns-then-not-steps_left c =
    limit-judged _ _ _ c.requires.fits c.steps_left.ensures.1 (sym c.steps_left.ensures.0 ∙ c.if-not-steps_left.true)

pub returns : goal.returns
returns c =
    record-judged _ _ _ c.requires.fits c.steps_left.ensures.1 (sym c.steps_left.ensures.0 ∙ c.if-not-steps_left.false) c.read.ensures
