-- `write_tanks` meets its contract.
use Prim.Native.Nat.{◌+◌}
use native.Mathlib.Omega.{arith}
use Rattle.method.specs.Inflow.{no_inflow}
use Rattle.state.proofs.StateLaws.{changed-none, figures-put-more}
use Rattle.answer_space.specs.Places.{figures_at}
use Rattle.next_state.proofs.write_tanks.Goals as goal

pub loop-x-init : goal.loop-x-init
loop-x-init c = (omega arith, changed-none _ _)

pub loop-x-preserved : goal.loop-x-preserved
unfolding figures_at no_inflow
loop-x-preserved c = (
  omega arith,
  figures-put-more (λ k. figures_at _ (_ + k + 1)) _ _ _ c.loop-x.invariant.1 c.put_figures.ensures,
)
