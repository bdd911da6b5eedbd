-- `add_old_outflow` meets its contract.
use Rattle.network_step.proofs.add_old_outflow.Goals as goal

pub add_figures-requires : goal.add_figures-requires
add_figures-requires c =
    let p = c.requires in
    rw (c.old_outflow.ensures, c.down_at.ensures, c.figures_of-old.ensures) (p.room, (p.small, p.fits))

pub returns : goal.returns
returns c = cc
