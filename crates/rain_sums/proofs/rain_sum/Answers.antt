-- `rain_sum` meets its contract.
use borrow.Author.Rules.{rules}
use mathlib.Core.Path.{sym}
use native.Mathlib.Omega.{arith}
use Rattle.rain_sums.proofs.RainLaws.{all-three-rains}
use Rattle.rain_sums.proofs.rain_sum.Goals as goal

pub returns-in_default : goal.returns-in_default
returns-in_default c = (
  sym (all-three-rains _ _ c.requires.0 (search rules) (search rules) (search rules)),
  omega arith,
)
