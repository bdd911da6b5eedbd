-- `work_tanks` meets its contract.
use Prim.Native.Nat.{ℕ, ◌≤◌}
use mathlib.Core.List.{List}
use mathlib.Core.Path.{◌≡◌, sym, ap, ◌∙◌}
use native.Mathlib.Omega.{arith}
use lib.ListN.{get_or}
use Rattle.method.specs.declared.Figures.{Figures}
use Rattle.std.specs.Prelude.{Option}
use Rattle.units.specs.Units.{S}
use Rattle.elements.specs.declared.Element.{Element}
use Rattle.elements.specs.Elements.{element_at}
use Rattle.table.specs.InUse.{table_in}
use Rattle.table.proofs.InUseLaws.{element-read}
use Rattle.rating.specs.declared.RatedReading.{RatedReading}
use Rattle.record.specs.Records.{input_observation}
use Rattle.record.specs.Decoded.{observation_here}
use Rattle.record.specs.GaugeOrder.{gauge_here}
use Rattle.record.proofs.GaugeOrderLaws.{here-used, observation-found}
use Rattle.state.specs.States.{State}
use Rattle.element_weights.specs.Weights.{element_weight}
use Rattle.element_weights.proofs.WeightsLaws.{weight-held}
use Rattle.network_step.specs.declared.Reached.{Reached}
use Rattle.network_step.specs.Held.{TanksTurn}
use Rattle.network_step.proofs.StepLaws.{tanks-there, tanks-many, tank-most, open-ready, opened-passes, last-ready-tank, tanks-stepped, tanks-refused}
use Rattle.network_step.proofs.work_tanks.Goals as goal

-- what the turn of the tanks in a step by a record says of what the code has read
module _
    {table weight observed : List ℕ} {space : List Figures} {bytes : List ℕ} {n m basins : ℕ} {met : Reached} {s : State}
    (q : TanksTurn table n m met weight observed s space basins bytes) where
  seen :
      {here : ℕ} {ob : Option RatedReading}
      → here ≡ gauge_here (table_in table) met.gauges met.element
      → ob ≡ observation_here observed here met.gauges
      → ob ≡ input_observation (table_in table) bytes met.element (table_in table).gauges
  seen here ob =
      let b = q.run.ready.accepts.bounds in
      ob ∙ observation-found _ b.gauge b.rising _ q.run.ready.held _ q.run.reached.gauges here

  system : {noise : ℕ} → noise ≡ (element_at table met.element).system_noise.0 → noise ≡ ((table_in table).element met.element).system_noise.0
  system e = e ∙ ap (λ (x : Element). x.system_noise.0) (sym (element-read _ _ q.used))

  weighed : (get_or weight met.element 0 ≡ element_weight (table_in table) met.element) × (get_or weight met.element 0 ≤ S)
  weighed = weight-held q.run.ready.weights _ q.used

pub observation_here-observation-requires : goal.observation_here-observation-requires
observation_here-observation-requires c =
    λ e. omega (arith, here-used _ _ _ c.gauge_here.ensures.0 e, c.requires.turn.run.ready.room)

pub extra_at-extra-requires : goal.extra_at-extra-requires
extra_at-extra-requires c =
    let q = c.requires.turn in
    tanks-there _ q.run.ready.accepts q.used q.kind

pub overflow_add-places-2 : goal.overflow_add-places-2
overflow_add-places-2 c =
    let q = c.requires.turn in
    omega (arith, tank-most _ _ _ q.run.ready.accepts.bounds q.run.reached)

pub open_tanks-requires : goal.open_tanks-requires
open_tanks-requires c =
    let q = c.requires.turn in
    let w = weighed q in
    open-ready _ c.requires.bytes _ q.run.ready.accepts q.run.ready.state _ q.used q.kind (system q c.noise_at-noise.ensures) w.0
    q.run.reached.tank (tanks-many _ q.run.ready.accepts q.used q.kind c.extra_at-extra.ensures) q.run.room w.1

pub returns-in_err-open_tanks : goal.returns-in_err-open_tanks
returns-in_err-open_tanks c =
    record {
      by = λ basins bytes q.
          tanks-refused _ _ _ _ _ _ _ c.from_residual.ensures.1
          (opened-passes _ bytes _ q.run.ready.accepts q.run.ready.state _ q.used q.kind (system q c.noise_at-noise.ensures) (weighed q).0
          q.run.reached.tank (tanks-many _ q.run.ready.accepts q.used q.kind c.extra_at-extra.ensures) q.run.reached.walked c.open_tanks.ensures
          c.in_err-open_tanks.was);
    }

pub store_tank-requires : goal.store_tank-requires
store_tank-requires c =
    let q = c.requires.turn in
    let w = weighed q in
    last-ready-tank _ c.requires.bytes _ q.run.ready.accepts q.run.ready.state _ q.used q.kind (system q c.noise_at-noise.ensures) w.0
    q.run.reached.tank (tanks-many _ q.run.ready.accepts q.used q.kind c.extra_at-extra.ensures) q.run.reached.walked c.open_tanks.ensures
    c.in_ok-open_tanks.was (seen q c.gauge_here.ensures.0 c.observation_here-observation.ensures)
    c.figures_of-last.ensures c.down_at-below.ensures q.run.ready.kept w.1 q.run.room
    c.open_tanks.auto.space

pub returns : goal.returns
returns c =
    record {
      by = λ basins bytes q.
          tanks-stepped _ bytes _ q.run.ready.accepts q.run.ready.state _ q.used q.kind (system q c.noise_at-noise.ensures) (weighed q).0
          q.run.reached.tank (tanks-many _ q.run.ready.accepts q.used q.kind c.extra_at-extra.ensures) q.run.reached.walked c.open_tanks.ensures
          c.in_ok-open_tanks.was (seen q c.gauge_here.ensures.0 c.observation_here-observation.ensures)
          c.figures_of-last.ensures c.down_at-below.ensures c.store_tank.ensures;
    }
