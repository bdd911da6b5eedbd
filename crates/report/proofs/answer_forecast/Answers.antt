-- `answer_forecast` meets its contract.
use Rattle.program.specs.Records.{forecast_printed, refusal_printed}
use Rattle.report.proofs.FiguresLaws.{forecast-not-shown}
use Rattle.report.proofs.ReportLaws.{lines-ready, lines-printed}
use Rattle.report.proofs.answer_forecast.Goals as goal

pub put_lines-requires : goal.put_lines-requires
put_lines-requires c = lines-ready c.requires c.forecast_in-answer.ensures c.in-Ok.is c.forecast_in-answer.auto.space

pub returns-in-Ok : goal.returns-in-Ok
returns-in-Ok c =
    lines-printed c.requires c.forecast_in-answer.ensures c.in-Ok.is c.put_lines.ensures.0 c.put_lines.ensures.1

pub returns-in-Err : goal.returns-in-Err
unfolding forecast_printed refusal_printed
returns-in-Err c =
    rw (forecast-not-shown _ _ c.requires.state_kept _ _ c.forecast_in-answer.ensures c.in-Err.is) c.answer_refusal.ensures
