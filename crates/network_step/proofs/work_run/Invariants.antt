-- The loop of `work_run`.
use Prim.Native.Nat.{◌≤◌}
use mathlib.Core.Path.{◌≡◌}
use lib.ListN.{length}
use Rattle.table.specs.InUse.{table_in}
use Rattle.network_step.specs.Held.{ReachedIn}
use Rattle.network_step.proofs.work_run.Given as goal

abbrev pub invariant-loop-i : goal.invariant-loop-i
invariant-loop-i l = (l.first ≤ l.i)
    × ((length l.space ≡ length l.initial.space)
    × ReachedIn (table_in l.table) l.bytes l.state (record { element = l.i; tank = l.from.tank; passed = l.passed; gauges = l.g }) l.space)
