-- `river_forecast` meets its contract.
use Rattle.river.proofs.ReplyLaws.{forecast-replied}
use Rattle.river.proofs.river_forecast.Goals as goal

pub returns : goal.returns
returns c = forecast-replied _ _ _ _ _ c.forecast.ensures c.from.ensures
