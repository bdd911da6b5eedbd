-- `open_tanks` meets its contract.
use Rattle.tank_walk.proofs.TankLaws.{move-ready}
use Rattle.tank_walk.proofs.open_tanks.Goals as goal

pub move_row-requires : goal.move_row-requires
move_row-requires c = move-ready c.requires
