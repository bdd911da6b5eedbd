-- The loop of `work_run`.
use Rattle.table.specs.InUse.{table_in}
use Rattle.network_leads.proofs.TurnLaws.{RunSoFar}
use Rattle.network_leads.proofs.work_run.Given as goal

abbrev pub invariant-loop-i : goal.invariant-loop-i
invariant-loop-i l = RunSoFar (table_in l.table) l.state l.leads l.from l.i l.initial.space l.space
