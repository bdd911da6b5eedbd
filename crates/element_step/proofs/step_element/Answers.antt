-- `step_element` meets its contract.
use mathlib.Core.Path.{◌≡◌, sym, ◌∙◌}
use Rattle.std.proofs.Common.{rules}
use Rattle.std.proofs.lemmas.Result.{err_from_is_err_and}
use Rattle.method.specs.Figures.{AnsweredFiguresFit}
use Rattle.elements.specs.Kinds.{basin, reach, dam}
use Rattle.element_step.proofs.StepLaws.{move-passes, move-accepted, basin-answered, reach-answered, dam-answered}
use Rattle.element_step.proofs.step_element.Goals as goal

pub returns-in_err-move_basin-in-Some-Basin : goal.returns-in_err-move_basin-in-Some-Basin
unfolding AnsweredFiguresFit
returns-in_err-move_basin-in-Some-Basin c =
    let k : c.args.e.kind ≡ basin = search rules in
    let p = err_from_is_err_and c.from_residual.result c.from_residual.ensures.1 in
    rw (p.1, p.2) (move-passes _ _ _ _ _ c.in_err-move_basin-in-Some-Basin.ensures.0 ∙ basin-answered _ _ _ _ k (sym c.requires.1), tt)

pub returns-in_err-move_reach-in-Some-Reach : goal.returns-in_err-move_reach-in-Some-Reach
unfolding AnsweredFiguresFit
returns-in_err-move_reach-in-Some-Reach c =
    let k : c.args.e.kind ≡ reach = search rules in
    let p = err_from_is_err_and c.from_residual-in_err-move_reach-in-Some-Reach.result c.from_residual-in_err-move_reach-in-Some-Reach.ensures.1 in
    rw (p.1, p.2) (move-passes _ _ _ _ _ c.in_err-move_reach-in-Some-Reach.ensures.0 ∙ reach-answered _ _ _ _ k, tt)

pub returns-in_ok-move_basin-in-Some-Basin : goal.returns-in_ok-move_basin-in-Some-Basin
returns-in_ok-move_basin-in-Some-Basin c =
    let k : c.args.e.kind ≡ basin = search rules in (
      move-accepted _ _ _ _ _ c.in_ok-move_basin-in-Some-Basin.ensures.0 c.correct_by.ensures.0
          ∙ basin-answered _ _ _ _ k (sym c.requires.1),
      c.correct_by.ensures.1,
    )

pub returns-in_ok-move_reach-in-Some-Reach : goal.returns-in_ok-move_reach-in-Some-Reach
returns-in_ok-move_reach-in-Some-Reach c =
    let k : c.args.e.kind ≡ reach = search rules in (
      move-accepted _ _ _ _ _ c.in_ok-move_reach-in-Some-Reach.ensures.0 c.correct_by-in-Some-Reach.ensures.0
          ∙ reach-answered _ _ _ _ k,
      c.correct_by-in-Some-Reach.ensures.1,
    )

pub returns-in-Some-Dam : goal.returns-in-Some-Dam
unfolding AnsweredFiguresFit
returns-in-Some-Dam c =
    let p = c.requires.0 in
    let k : c.args.e.kind ≡ dam = search rules in
    let d = dam-answered _ _ _ _ k (p.release k) p.move.element.system_noise in
    (rw c.dam_figures.ensures d.0, rw c.dam_figures.ensures d.1)
