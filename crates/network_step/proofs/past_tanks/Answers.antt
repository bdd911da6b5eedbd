-- `past_tanks` meets its contract.
use mathlib.Core.Path.{refl}
use native.Mathlib.Omega.{arith}
use Rattle.network_step.proofs.StepLaws.{tanks-there, tanks-few, tanks-many, past-made}
use Rattle.network_step.proofs.past_tanks.Goals as goal

pub extra_at-requires : goal.extra_at-requires
extra_at-requires c =
    let p = c.requires in
    tanks-there _ p.counts.table p.used p.kind

pub overflow_add-result-2 : goal.overflow_add-result-2
overflow_add-result-2 c =
    let p = c.requires in
    omega (arith, p.tank_few, tanks-few _ p.counts.table p.used p.kind c.extra_at.ensures)

pub returns : goal.returns
returns c =
    let p = c.requires in
    past-made _ _ (tanks-many _ p.counts.table p.used p.kind c.extra_at.ensures) c.gauge_here.ensures.0 refl
