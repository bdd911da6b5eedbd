-- `put_tanks` meets its contract.
use native.Mathlib.Omega.{arith}
use Rattle.state.proofs.StateLaws.{changed-none, figures-put-more}
use Rattle.first_values.proofs.put_tanks.Goals as goal

pub loop-j-init : goal.loop-j-init
loop-j-init c = (omega arith, changed-none _ _)

pub loop-j-preserved : goal.loop-j-preserved
loop-j-preserved c =
    (omega arith, figures-put-more (λ _. _) _ _ _ c.loop-j.invariant.1 c.put_figures.ensures)
