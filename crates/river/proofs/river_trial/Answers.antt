-- `river_trial` meets its contract.
use Rattle.river.proofs.ReplyLaws.{forecast-replied}
use Rattle.river.proofs.river_trial.Goals as goal

pub returns : goal.returns
returns c = forecast-replied _ _ _ _ _ c.trial.ensures c.from.ensures
