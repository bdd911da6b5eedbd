-- `trial_in_space` meets its contract.
use native.Mathlib.Omega.{arith}
use Rattle.method.specs.Inflow.{no_inflow}
use Rattle.record_step.proofs.StepLaws.{spaces-ready}
use Rattle.trial.proofs.TrialLaws.{figures-ready, trial-refused, trial-accepted}
use Rattle.trial.proofs.trial_in_space.Goals as goal

pub work_record-requires : goal.work_record-requires
unfolding no_inflow
work_record-requires g c =
    let r = c.requires in spaces-ready r.0 _ _ _ r.1.weights r.1.gauges r.1.places

pub returns-in_err-work_record : goal.returns-in_err-work_record
returns-in_err-work_record g c =
    trial-refused _ _ _ c.requires.0 _ c.work_record.ensures _ _ c.in_err-work_record.was c.from_residual.ensures.1

pub write_figures-requires : goal.write_figures-requires
write_figures-requires g c =
    figures-ready _ _ _ c.requires.0 _ c.work_record.ensures (omega (arith, c.work_record.auto, c.requires.1.places)) c.in_ok-work_record.was

pub returns : goal.returns
returns g c =
    trial-accepted _ _ _ c.requires.0 _ c.work_record.ensures (omega (arith, c.work_record.auto, c.requires.1.places)) c.in_ok-work_record.was
    c.write_figures.ensures
