-- `work_tanks` meets its contract.
use native.Mathlib.Omega.{arith}
use Rattle.tank_walk.proofs.TankLaws.{tanks-passed, tanks-again, tanks-ended}
use Rattle.tank_walk.proofs.work_tanks.Goals as goal

pub returns-in_err-work_tank : goal.returns-in_err-work_tank
returns-in_err-work_tank c =
    tanks-passed c.loop-j.invariant c.loop-j-test.true c.figures_of-first.ensures c.work_tank.ensures c.in_err-work_tank.was
    c.from_residual.ensures.1

pub loop-j-preserved : goal.loop-j-preserved
loop-j-preserved c =
    tanks-again c.loop-j.invariant c.loop-j-test.true c.figures_of-first.ensures c.work_tank.ensures c.in_ok-work_tank.was c.work_tank.auto.space

pub returns : goal.returns
returns c = let h = c.loop-j.invariant in tanks-ended h (omega (arith, h.ready.tank, c.loop-j-test.false))
