-- The loop of `work_step`.
use Prim.Native.Nat.{◌-◌}
use mathlib.Core.Path.{◌≡◌}
use lib.ListN.{length}
use Rattle.table.specs.InUse.{table_in}
use Rattle.network_step.specs.Held.{ReachedIn}
use Rattle.network_step.proofs.work_step.Given as goal

abbrev pub invariant-loop-run : goal.invariant-loop-run
invariant-loop-run l = (length l.space ≡ length l.initial.space) × ReachedIn (table_in l.table) l.bytes l.state l.from l.space

abbrev pub decreases-loop-run : goal.decreases-loop-run
decreases-loop-run l = l.n - l.from.element
