-- `lay_out` meets its contract.
use mathlib.Core.Path.{refl}
use native.Mathlib.Omega.{arith}
use Rattle.method.specs.Inflow.{no_inflow}
use Rattle.method.specs.Figures.{layout}
use Rattle.answer_space.proofs.LayLaws.{laid-more, all-laid}
use Rattle.answer_space.proofs.lay_out.Goals as goal

pub loop-i-init : goal.loop-i-init
unfolding layout
loop-i-init c = refl

pub loop-i-preserved : goal.loop-i-preserved
unfolding no_inflow
loop-i-preserved c = laid-more _ _ c.requires c.loop-i-test.true c.loop-i.invariant

pub returns : goal.returns
returns c = all-laid _ _ c.requires (omega (arith, c.loop-i.auto.i-end, c.loop-i-test.false)) c.loop-i.invariant
