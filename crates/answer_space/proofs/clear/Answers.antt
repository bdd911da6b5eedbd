-- `clear` meets its contract.
use mathlib.Core.Path.{refl}
use Rattle.method.specs.Inflow.{no_inflow}
use Rattle.answer_space.proofs.EmptyLaws.{all-empty}
use Rattle.answer_space.proofs.clear.Goals as goal

pub returns : goal.returns
unfolding no_inflow
returns c = let h = c.fill.ensures in all-empty _ _ h.len (λ k l. h.clones k _ l refl)
