-- `answer_record` meets its contract.
use native.Mathlib.Omega.{arith}
use Rattle.cells.proofs.BoundsLaws.{cells-bounds}
use Rattle.entries.proofs.NextLaws.{answered-fits}
use Rattle.report.proofs.ReportLaws.{step-length, reported-accepted, reported-refused}
use Rattle.report.proofs.answer_record.Goals as goal

pub answer_forecast-requires : goal.answer_forecast-requires
answer_forecast-requires c =
    let p = c.requires in
    let v = c.step_lent-step.ensures in
    record {
      weighed = p.weighed;
      state_whole = step-length _ _ _ _ _ v p.weighed.counted.counted.table.bounds p.state_whole;
      state_kept = answered-fits _ _ _ _ (cells-bounds _ p.weighed.counted.counted.table.bounds) p.state_whole _ v c.in-Ok.is;
      space_full = omega (arith, c.step_lent-step.auto, p.space_full);
      room = p.room;
    }

pub returns-in-Ok : goal.returns-in-Ok
returns-in-Ok c =
    reported-accepted _ _ _ _ _ c.step_lent-step.ensures c.in-Ok.is c.answer_forecast.ensures

pub returns-in-Err : goal.returns-in-Err
returns-in-Err c =
    reported-refused _ _ _ _ _ c.step_lent-step.ensures _ c.in-Err.is c.answer_refusal.ensures
