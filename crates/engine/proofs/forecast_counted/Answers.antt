-- `forecast_counted` meets its contract.
use Rattle.network.proofs.LentLaws.{lent-as}
use Rattle.engine.proofs.EntryLaws.{forecast-refused, judged-accepted, forecast-state-kept}
use Rattle.engine.proofs.forecast_counted.Goals as goal

pub judge_state-requires : goal.judge_state-requires
judge_state-requires c = let p = c.requires.counted in (p.table, (p.held.elements, c.requires.extra))

pub returns-in_err-judge_state : goal.returns-in_err-judge_state
returns-in_err-judge_state c =
    forecast-refused _ _ _ _ c.judge_state.ensures _ _ c.in_err-judge_state.was c.from_residual.ensures.1

pub forecast_on-requires : goal.forecast_on-requires
forecast_on-requires c = (c.requires, judged-accepted _ _ c.judge_state.ensures c.in_ok-judge_state.was)

pub returns : goal.returns
returns c = lent-as (forecast-state-kept _ _ _ (judged-accepted _ _ c.judge_state.ensures c.in_ok-judge_state.was)) c.forecast_on.ensures
