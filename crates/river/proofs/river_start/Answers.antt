-- `river_start` meets its contract.
use Rattle.river.proofs.ReplyLaws.{state-replied}
use Rattle.river.proofs.river_start.Goals as goal

pub returns : goal.returns
returns c = state-replied _ _ _ _ _ c.start.ensures c.refusal_of.ensures
