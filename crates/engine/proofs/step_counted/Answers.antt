-- `step_counted` meets its contract.
use Rattle.engine.proofs.EntryLaws.{step-refused, judged-accepted}
use Rattle.engine.proofs.step_counted.Goals as goal

pub judge_state-requires : goal.judge_state-requires
judge_state-requires c = let p = c.requires.counted in (p.table, (p.held.elements, c.requires.extra))

pub returns-in_err-judge_state : goal.returns-in_err-judge_state
returns-in_err-judge_state c =
    step-refused _ _ _ _ c.judge_state.ensures _ _ c.in_err-judge_state.was c.from_residual.ensures.1

pub step_from-requires : goal.step_from-requires
step_from-requires c = (c.requires, judged-accepted _ _ c.judge_state.ensures c.in_ok-judge_state.was)
