-- `work_element` meets its contract.
use Rattle.lead_walk.proofs.LeadsLaws.{element-accepted}
use Rattle.lead_walk.proofs.work_element.Goals as goal

pub returns-in-Some-Dam : goal.returns-in-Some-Dam
returns-in-Some-Dam c = element-accepted c.hold_dam.ensures
