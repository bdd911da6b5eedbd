-- The loop of `store_tank`.
use Rattle.one_lead.specs.Worked.{tank_input}
use Rattle.lead_walk.proofs.LeadsLaws.{LeadsSoFar}
use Rattle.lead_walk.proofs.store_tank.Given as goal

abbrev pub invariant-loop-k : goal.invariant-loop-k
invariant-loop-k l = LeadsSoFar (tank_input l.noise l.weight l.observation) l.initial.old l.here l.below l.leads l.initial.space l.k l.space l.old
