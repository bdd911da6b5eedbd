-- The loop of `work_tanks`.
use Rattle.tank_walk.proofs.TankLaws.{TanksSoFar}
use Rattle.tank_walk.proofs.work_tanks.Given as goal

abbrev pub invariant-loop-j : goal.invariant-loop-j
invariant-loop-j l = TanksSoFar l.noise l.weight l.extra l.x l.places l.state l.initial.space l.j l.space
