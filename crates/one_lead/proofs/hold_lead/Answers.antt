-- `hold_lead` meets its contract.
use Rattle.one_lead.proofs.LeadLaws.{ready-first, places-ready, new-kept, old-ready-last, both-kept-last, dam-fits, dam-worked}
use Rattle.one_lead.proofs.hold_lead.Goals as goal

pub put_and_add-requires : goal.put_and_add-requires
put_and_add-requires c =
    let ready = c.requires.0 in
    places-ready _ _ _ _ (ready-first _ _ _ _ ready) _ (dam-fits ready.in_range c.requires.1 c.dam_figures-released.ensures)

pub add_figures-requires : goal.add_figures-requires
add_figures-requires c =
    let ready = c.requires.0 in
    let fits = dam-fits ready.in_range c.requires.1 c.dam_figures-released.ensures in
    old-ready-last _ _ _ _ ready _ _ (new-kept _ _ _ _ (ready-first _ _ _ _ ready) _ fits c.put_and_add.ensures) _ c.old_outflow.ensures

pub returns : goal.returns
returns c =
    let ready = c.requires.0 in
    let fits = dam-fits ready.in_range c.requires.1 c.dam_figures-released.ensures in
    dam-worked _ _ _ _ _ c.requires.1 ready.in_range c.dam_figures-released.ensures
    (both-kept-last _ _ _ _ ready _ _ (new-kept _ _ _ _ (ready-first _ _ _ _ ready) _ fits c.put_and_add.ensures) _ c.old_outflow.ensures
    c.add_figures.ensures)
