-- `work_lead` meets its contract.
use mathlib.Core.Path.{refl}
use Rattle.answer_space.specs.Places.{figures_at}
use Rattle.method.proofs.FiguresLaws.{accepted-fits}
use Rattle.method.specs.Inflow.{no_inflow, old_and_new_outflow}
use Rattle.one_lead.proofs.LeadLaws.{lead-refused, old-ready, new-ready, places-ready, new-kept, both-kept, lead-accepted}
use Rattle.one_lead.proofs.work_lead.Goals as goal

pub returns-in_err-new : goal.returns-in_err-new
unfolding figures_at no_inflow
returns-in_err-new c =
    lead-refused _ _ _ _ _ _ refl c.lead_element.ensures c.in_err-new.was c.from_residual.ensures.1

pub add_figures-requires : goal.add_figures-requires
add_figures-requires c = old-ready _ _ _ _ c.requires.0 _ c.old_outflow.ensures

pub put_and_add-requires : goal.put_and_add-requires
put_and_add-requires c =
    places-ready _ _ _ _ (new-ready _ _ _ _ c.requires.0 _ c.old_outflow.ensures _ c.add_figures.ensures) _
    (accepted-fits c.in_ok-new.was c.lead_element.ensures.1)

pub returns : goal.returns
unfolding figures_at no_inflow
returns c =
    let x = c.in_ok-new.was in
    let ready = c.requires.0 in
    lead-accepted _ _ _ _ _ _ refl c.lead_element.ensures _ x (old_and_new_outflow _)
    (both-kept _ _ _ _ ready _ c.old_outflow.ensures _ c.add_figures.ensures
    (new-kept _ _ _ _ (new-ready _ _ _ _ ready _ c.old_outflow.ensures _ c.add_figures.ensures) _
    (accepted-fits x c.lead_element.ensures.1) c.put_and_add.ensures))
