-- `step_in_space` meets its contract.
use Prim.Native.Nat.{ℕ, ◌*◌}
use mathlib.Core.Path.{ap}
use native.Mathlib.Omega.{arith}
use Rattle.method.specs.Inflow.{no_inflow}
use Rattle.record_step.proofs.StepLaws.{passed-as, written-refused, elements-ready, both-written, write-given, spaces-ready}
use Rattle.record_step.proofs.step_in_space.Goals as goal

pub work_record-requires : goal.work_record-requires
unfolding no_inflow
work_record-requires g c =
    let r = c.requires in spaces-ready r.0 _ _ _ r.1.weights r.1.gauges r.1.places

pub returns-in_err-work_record : goal.returns-in_err-work_record
returns-in_err-work_record g c =
    rw (passed-as _ _ _ c.in_err-work_record.was c.from_residual.ensures.1) at
    (written-refused _ _ _ c.work_record.ensures (ap (λ (n : ℕ). 4 * n) c.requires.0.elements) c.in_err-work_record.was)

pub write_tanks-requires : goal.write_tanks-requires
write_tanks-requires g c =
    let p = c.requires.0 in
    record { few = omega (arith, p.elements, p.extra_all, p.accepts.bounds.places_most); room = omega (arith, c.work_record.auto, c.requires.1.places) }

pub write_state-requires : goal.write_state-requires
write_state-requires g c =
    elements-ready (write-given c.requires.0 (omega (arith, c.work_record.auto, c.requires.1.places)) c.work_record.ensures) c.in_ok-work_record.was
    c.write_tanks.ensures

pub returns : goal.returns
returns g c =
    both-written (write-given c.requires.0 (omega (arith, c.work_record.auto, c.requires.1.places)) c.work_record.ensures) c.in_ok-work_record.was
    c.write_tanks.ensures c.write_state.ensures
