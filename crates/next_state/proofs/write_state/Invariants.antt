-- The loop of `write_state`.
use Prim.Native.Nat.{◌≤◌}
use mathlib.Core.Path.{◌≡◌}
use Rattle.table.specs.InUse.{table_in}
use Rattle.table.specs.KindCounts.{basins_before}
use Rattle.state.specs.States.{changed}
use Rattle.next_state.proofs.WriteLaws.{change}
use Rattle.next_state.proofs.write_state.Given as goal

abbrev pub invariant-loop-i : goal.invariant-loop-i
invariant-loop-i l = (l.i ≤ l.n)
    × (((l.b ≡ basins_before (table_in l.table) l.i) × (l.b ≤ l.i)) × (l.state ≡ changed (change l.table l.bytes l.space l.initial.state) l.i l.initial.state))
