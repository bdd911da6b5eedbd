-- The loop of `start_on`.
use Prim.Native.Nat.{◌+◌, ◌≤◌}
use mathlib.Core.Path.{◌≡◌}
use Rattle.table.specs.KindCounts.{extra_before}
use Rattle.table.specs.InUse.{table_in}
use Rattle.cells.specs.Cells.{first_cell}
use Rattle.state.specs.States.{changed}
use Rattle.state.proofs.StateLaws.{first_change}
use Rattle.first_values.proofs.start_on.Given as goal

abbrev pub invariant-loop-i : goal.invariant-loop-i
invariant-loop-i l = ((l.i ≤ l.n) × (l.x ≡ l.n + extra_before (table_in l.table) l.i))
    × (l.state ≡ changed (first_change l.table l.initial.state) (first_cell (table_in l.table) l.i) l.initial.state)
