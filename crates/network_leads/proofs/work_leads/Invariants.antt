-- The loop of `work_leads`.
use Prim.Native.Nat.{◌-◌}
use Rattle.table.specs.InUse.{table_in}
use Rattle.network_leads.proofs.TankTurnLaws.{RunsSoFar}
use Rattle.network_leads.proofs.work_leads.Given as goal

abbrev pub invariant-loop-i : goal.invariant-loop-i
invariant-loop-i l = RunsSoFar (table_in l.table) l.state l.leads l.n l.from l.x l.initial.space l.space

abbrev pub decreases-loop-i : goal.decreases-loop-i
decreases-loop-i l = l.n - l.from
