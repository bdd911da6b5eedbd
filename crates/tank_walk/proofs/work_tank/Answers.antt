-- `work_tank` meets its contract.
use Rattle.tank_walk.proofs.TankLaws.{turn-ready}
use Rattle.tank_walk.proofs.work_tank.Goals as goal

pub store_tank-requires : goal.store_tank-requires
store_tank-requires c =
    turn-ready c.requires c.tank_place-here.ensures c.tank_place-below.ensures c.clear_row.ensures c.clear_row.auto.space
