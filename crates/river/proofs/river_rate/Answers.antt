-- `river_rate` meets its contract.
use mathlib.Core.Path.{ap, ◌∙◌}
use Rattle.river.specs.Replies.{rating_reply}
use Rattle.river.proofs.river_rate.Goals as goal

pub returns : goal.returns
returns c = c.from.ensures ∙ ap rating_reply c.rate.ensures
