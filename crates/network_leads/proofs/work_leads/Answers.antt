-- `work_leads` meets its contract.
use native.Mathlib.Omega.{arith}
use Rattle.network_leads.proofs.WorkLaws.{run-end, run-next, worked-accepted}
use Rattle.network_leads.proofs.TankTurnLaws.{runs-begun, next-used, weight-there, tanks-ready, next-known, next-few, runs-again}
use Rattle.network_leads.proofs.work_leads.Goals as goal

pub loop-i-init : goal.loop-i-init
loop-i-init c = runs-begun c.requires.0 c.requires.1

pub returns-in_default : goal.returns-in_default
returns-in_default c = worked-accepted _ _ _ c.requires.0.leads _ (run-end _ _ _ _ _ c.in_ok-i.ensures c.in_default.is)

pub offset_bounds-weights-i : goal.offset_bounds-weights-i
offset_bounds-weights-i c = omega (arith, next-used c.requires.0 c.requires.1 c.loop-i.invariant (run-next _ _ _ _ _ c.in_ok-i.ensures c.in-Some.is))

pub bounds-weights-i : goal.bounds-weights-i
bounds-weights-i c = weight-there c.requires.0 c.requires.1 c.loop-i.invariant (run-next _ _ _ _ _ c.in_ok-i.ensures c.in-Some.is)

pub work_tanks-requires : goal.work_tanks-requires
work_tanks-requires c =
    tanks-ready c.requires.0 c.requires.1 c.loop-i.invariant (run-next _ _ _ _ _ c.in_ok-i.ensures c.in-Some.is) c.work_run.auto.space

pub extra_at-x-requires : goal.extra_at-x-requires
extra_at-x-requires c = next-known c.requires.0 c.requires.1 c.loop-i.invariant (run-next _ _ _ _ _ c.in_ok-i.ensures c.in-Some.is)

pub overflow_add-x : goal.overflow_add-x
overflow_add-x c =
    omega (arith, next-few c.requires.0 c.requires.1 c.loop-i.invariant (run-next _ _ _ _ _ c.in_ok-i.ensures c.in-Some.is) c.extra_at-x.ensures)

pub overflow_add-from : goal.overflow_add-from
overflow_add-from c = omega (arith, next-used c.requires.0 c.requires.1 c.loop-i.invariant (run-next _ _ _ _ _ c.in_ok-i.ensures c.in-Some.is))

pub loop-i-smaller : goal.loop-i-smaller
loop-i-smaller c =
    let h = run-next _ _ _ _ _ c.in_ok-i.ensures c.in-Some.is in
    omega (arith, h.later, h.used, c.requires.0.elements)

pub loop-i-preserved : goal.loop-i-preserved
loop-i-preserved c =
    runs-again c.requires.0 c.requires.1 c.loop-i.invariant (run-next _ _ _ _ _ c.in_ok-i.ensures c.in-Some.is) c.extra_at-x.ensures c.work_tanks.ensures
    c.in_ok-work_tanks.was c.work_run.auto.space c.work_tanks.auto.space
