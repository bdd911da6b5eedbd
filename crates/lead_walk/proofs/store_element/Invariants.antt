-- The loop of `store_element`.
use Rattle.lead_walk.proofs.LeadsLaws.{LeadsSoFar}
use Rattle.lead_walk.proofs.store_element.Given as goal

abbrev pub invariant-loop-k : goal.invariant-loop-k
invariant-loop-k l = LeadsSoFar l.input l.initial.old l.here l.below l.leads l.initial.space l.k l.space l.old
