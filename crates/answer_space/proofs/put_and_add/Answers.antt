-- `put_and_add` meets its contract.
use mathlib.Core.Path.{refl}
use Rattle.answer_space.specs.Places.{put}
use Rattle.answer_space.proofs.PlacesLaws.{add-ready, put-then-added}
use Rattle.answer_space.proofs.put_and_add.Goals as goal

pub add_figures-requires : goal.add_figures-requires
unfolding put
add_figures-requires c = add-ready _ _ _ _ _ c.requires refl

pub returns : goal.returns
unfolding put
returns c = put-then-added _ _ _ _ _ c.requires refl c.add_figures.ensures
