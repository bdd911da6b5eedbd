-- `step_tank` meets its contract.
use Rattle.std.proofs.Common.{rules}
use Rattle.method.specs.Figures.{AnsweredFiguresFit}
use Rattle.element_step.proofs.StepLaws.{move-passes, move-accepted}
use Rattle.element_step.proofs.step_tank.Goals as goal

pub returns-in_err-move_reach : goal.returns-in_err-move_reach
unfolding AnsweredFiguresFit
returns-in_err-move_reach c = search (rules, move-passes)

pub returns : goal.returns
returns c = (move-accepted _ _ _ _ _ c.in_ok-move_reach.ensures.0 c.correct_by.ensures.0, c.correct_by.ensures.1)
