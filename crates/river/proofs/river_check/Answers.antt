-- `river_check` meets its contract.
use native.Mathlib.Nat.{le_trans}
use Rattle.table.proofs.CountLaws.{basins-most, dams-most}
use Rattle.table.proofs.HeldLaws.{table-accepted}
use Rattle.river.proofs.ReplyLaws.{plan-replied, plan-refused}
use Rattle.river.proofs.river_check.Goals as goal

pub plan_of-requires : goal.plan_of-requires
plan_of-requires c =
    let p = (table-accepted _ _ c.in-Ok.ensures).counted in
    let k = p.counted in
    let b = k.table.bounds in
    record {
      elements = rw k.held.elements b.elements_most;
      leads = rw k.held.leads b.leads_most;
      gauges = rw k.held.gauges b.gauges_most;
      basins = rw k.basins (le_trans (basins-most _ _) b.elements_most);
      dams = rw k.dams (le_trans (dams-most _ _) b.elements_most);
      places = rw (k.held.elements, p.extra) b.places_most;
    }

pub returns-in-Ok : goal.returns-in-Ok
returns-in-Ok c =
    let k = table-accepted _ _ c.in-Ok.ensures in
    plan-replied _ _ k.kept (c.plan_of.ensures.of _ k.counted.counted.held k.counted.counted.basins k.counted.counted.dams k.counted.extra)

pub returns-in-Err : goal.returns-in-Err
returns-in-Err c =
    plan-refused _ _ _ _ c.in-Err.ensures c.code.ensures c.no_plan.ensures
