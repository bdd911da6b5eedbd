-- `moved_front` meets its contract.
use mathlib.Core.Path.{refl}
use Rattle.progress.proofs.PlacesLaws.{moved-front-held}
use Rattle.progress.proofs.moved_front.Goals as goal

pub returns : goal.returns
returns c = moved-front-held _ _ _ _ c.requires.order c.requires.inside refl c.copy_within.ensures.after
