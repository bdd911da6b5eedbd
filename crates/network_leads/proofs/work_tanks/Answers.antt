-- `work_tanks` meets its contract.
use mathlib.Core.Path.{refl}
use native.Mathlib.Omega.{arith}
use Rattle.answer_space.specs.Places.{put}
use Rattle.network_leads.proofs.TankTurnLaws.{tank-known, below-most, open-ready, tanks-above, last-ready, last_done}
use Rattle.network_leads.proofs.work_tanks.Goals as goal

pub extra_at-extra-requires : goal.extra_at-extra-requires
extra_at-extra-requires c = tank-known c.requires

pub open_tanks-requires : goal.open_tanks-requires
unfolding put
open_tanks-requires c =
    open-ready c.requires c.figures_of-last.ensures refl c.noise_at-noise.ensures c.extra_at-extra.ensures

pub returns-in_err-open_tanks : goal.returns-in_err-open_tanks
unfolding put
returns-in_err-open_tanks c =
    tanks-above c.requires c.figures_of-last.ensures refl c.noise_at-noise.ensures c.extra_at-extra.ensures
    c.open_tanks.ensures c.in_err-open_tanks.was c.from_residual.ensures.1

pub overflow_mul-below : goal.overflow_mul-below
overflow_mul-below c = omega (arith, below-most c.requires c.down_at.ensures)

pub overflow_add-below : goal.overflow_add-below
overflow_add-below c = omega (arith, below-most c.requires c.down_at.ensures)

pub store_tank-requires : goal.store_tank-requires
unfolding put
store_tank-requires c =
    last-ready c.requires c.figures_of-last.ensures refl c.noise_at-noise.ensures c.extra_at-extra.ensures
    c.open_tanks.ensures c.in_ok-open_tanks.was c.down_at.ensures c.open_tanks.auto.space

pub returns : goal.returns
unfolding put
returns c =
    last_done c.requires c.figures_of-last.ensures refl c.noise_at-noise.ensures c.extra_at-extra.ensures
    c.open_tanks.ensures c.in_ok-open_tanks.was c.down_at.ensures c.store_tank.ensures
