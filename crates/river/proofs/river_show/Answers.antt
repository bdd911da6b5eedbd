-- `river_show` meets its contract.
use mathlib.Core.Path.{ap, ◌∙◌}
use Rattle.river.specs.Replies.{display_reply}
use Rattle.river.proofs.river_show.Goals as goal

pub returns : goal.returns
returns c = c.from.ensures ∙ ap display_reply c.show.ensures
