-- `trial_counted` meets its contract.
use Rattle.trial.proofs.TrialLaws.{state-refused}
use Rattle.trial.proofs.trial_counted.Goals as goal

pub judge_state-requires : goal.judge_state-requires
judge_state-requires c = let p = c.requires.counted in (p.table, (p.held.elements, c.requires.extra))

pub returns-in_err-judge_state : goal.returns-in_err-judge_state
returns-in_err-judge_state c =
    state-refused _ _ _ _ _ _ _ c.judge_state.ensures c.in_err-judge_state.was c.from_residual.ensures.1
