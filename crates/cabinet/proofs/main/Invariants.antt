-- The loop of `main`.
use Rattle.program_run.proofs.MeasureLaws.{size}
use Rattle.progress.specs.Places.{held_in}
use Rattle.machine.specs.Buffers.{BuffersFit, WorkingSpace}
use Rattle.cabinet.proofs.main.Given as goal

abbrev pub invariant-loop-size : goal.invariant-loop-size
invariant-loop-size l = BuffersFit l.progress l.input l.table l.weights l.state l.out × WorkingSpace l.space

abbrev pub decreases-loop-size : goal.decreases-loop-size
decreases-loop-size l = size (held_in l.progress l.input l.table l.state l.out)
