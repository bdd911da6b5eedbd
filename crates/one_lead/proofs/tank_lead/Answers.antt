-- `tank_lead` meets its contract.
use mathlib.Core.Path.{refl}
use Rattle.method.specs.Inflow.{no_inflow}
use Rattle.answer_space.specs.Places.{figures_at}
use Rattle.method.proofs.FiguresLaws.{accepted-fits}
use Rattle.one_lead.proofs.LeadLaws.{tank-refused, old-ready, new-ready, places-ready, new-kept, both-kept, tank-accepted}
use Rattle.one_lead.proofs.tank_lead.Goals as goal

pub returns-in_err-new : goal.returns-in_err-new
unfolding figures_at no_inflow
returns-in_err-new c =
    tank-refused _ _ _ _ _ _ _ _ _ refl c.step_tank.ensures c.in_err-new.was c.from_residual.ensures.1

pub add_figures-requires : goal.add_figures-requires
add_figures-requires c = old-ready _ _ _ _ c.requires _ c.old_outflow.ensures

pub put_and_add-requires : goal.put_and_add-requires
put_and_add-requires c =
    places-ready _ _ _ _ (new-ready _ _ _ _ c.requires _ c.old_outflow.ensures _ c.add_figures.ensures) _
    (accepted-fits c.in_ok-new.was c.step_tank.ensures.1)

pub returns : goal.returns
unfolding figures_at no_inflow
returns c =
    let x = c.in_ok-new.was in
    let ready = c.requires in
    tank-accepted _ _ _ _ _ _ _ _ _ refl c.step_tank.ensures _ x
    (both-kept _ _ _ _ ready _ c.old_outflow.ensures _ c.add_figures.ensures
    (new-kept _ _ _ _ (new-ready _ _ _ _ ready _ c.old_outflow.ensures _ c.add_figures.ensures) _
    (accepted-fits x c.step_tank.ensures.1) c.put_and_add.ensures))
