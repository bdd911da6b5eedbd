-- `series_weight` meets its contract: at each turn the turns that are left bring h to the weight.
use Prim.Native.Nat.{◌≤◌}
use mathlib.Core.Path.{◌≡◌, refl, sym, ◌∙◌}
use native.Mathlib.Nat.{mul-le-mul}
use native.Mathlib.Omega.{arith}
use Rattle.weighting.specs.Weight.{turned, weight}
use Rattle.weighting.proofs.WeightLaws.{near-low, near-high, turned-again}
use Rattle.weighting.proofs.weight.series_weight.Goals as goal

-- after the loop no turn is left
left : (c : goal.After-loop-m) → turned c.args.step c.args.lag c.loop-m.h c.loop-m.m ≡ c.loop-m.h
unfolding turned
left c = let e : c.loop-m.m ≡ 0 = omega arith in rw e

pub loop-m-init : goal.loop-m-init
unfolding weight
loop-m-init c = (omega arith, refl)

pub quotient-requires : goal.quotient-requires
quotient-requires c =
    let l : c.args.step ≤ 60000 = omega arith in (
      (omega arith, (c.requires.1.1, mul-le-mul l c.loop-m.invariant.0)),
      (near-low _ _ _, near-high _ _ _ (omega arith) c.loop-m.invariant.0),
    )

pub loop-m-preserved : goal.loop-m-preserved
loop-m-preserved c =
    (omega arith, sym (turned-again _ _ _ _ _ c.quotient.ensures c.loop-m-test.true) ∙ c.loop-m.invariant.1)

pub returns : goal.returns
returns c = (sym (left c) ∙ c.loop-m.invariant.1, c.loop-m.invariant.0)
