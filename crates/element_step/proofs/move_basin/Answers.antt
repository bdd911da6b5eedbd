-- `move_basin` meets its contract.
use Rattle.std.proofs.Common.{rules}
use Rattle.method.specs.Figures.{AnsweredFiguresFit}
use Rattle.element_step.proofs.StepLaws.{inflow-passes, inflow-accepted}
use Rattle.element_step.proofs.move_basin.Goals as goal

pub returns-in_err-inflow : goal.returns-in_err-inflow
unfolding AnsweredFiguresFit
returns-in_err-inflow c = search (rules, inflow-passes)

pub returns : goal.returns
returns c = (
  inflow-accepted _ _ _ _ c.in_ok-inflow.ensures.0 c.route_discharge.ensures c.route_variance.ensures c.routed_figures.ensures.0,
  c.routed_figures.ensures.1,
)
