-- `after_read` meets its contract.
use mathlib.Core.Path.{refl}
use Rattle.progress.proofs.PlacesLaws.{read-in}
use Rattle.progress.proofs.after_read.Goals as goal

pub returns : goal.returns
returns c = read-in _ _ _ refl
