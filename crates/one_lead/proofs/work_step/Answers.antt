-- `work_step` meets its contract.
use mathlib.Core.Path.{refl}
use Rattle.method.specs.Inflow.{no_inflow}
use Rattle.answer_space.specs.Places.{figures_at}
use Rattle.method.proofs.FiguresLaws.{accepted-fits}
use Rattle.one_lead.proofs.LeadLaws.{lead-refused, places-ready, new-kept, lead-accepted}
use Rattle.one_lead.proofs.work_step.Goals as goal

pub returns-in_err-new : goal.returns-in_err-new
unfolding figures_at no_inflow
returns-in_err-new c =
    lead-refused _ _ _ _ _ _ refl c.step_element.ensures c.in_err-new.was c.from_residual.ensures.1

pub put_and_add-requires : goal.put_and_add-requires
put_and_add-requires c =
    places-ready _ _ _ _ c.requires _ (accepted-fits c.in_ok-new.was c.step_element.ensures.1)

pub returns : goal.returns
unfolding figures_at no_inflow
returns c =
    lead-accepted _ _ _ _ _ _ refl c.step_element.ensures _ c.in_ok-new.was (λ y. y)
    (new-kept _ _ _ _ c.requires _ (accepted-fits c.in_ok-new.was c.step_element.ensures.1) c.put_and_add.ensures)
