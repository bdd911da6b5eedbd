-- `gauges_fit` meets its contract.
use mathlib.Core.Path.{◌≡◌, refl, sym, ◌∙◌}
use native.Mathlib.Omega.{arith}
use Rattle.fields.proofs.RangeLaws.{all_none, all_more, all-fails}
use Rattle.gauges.specs.Rules.{element_before}
use Rattle.gauges.proofs.GaugeLaws.{element-next}
use Rattle.gauge_rules.proofs.JudgeLaws.{placed}
use Rattle.gauge_rules.proofs.gauges_fit.Goals as goal

pub loop-g-init : goal.loop-g-init
unfolding element_before
loop-g-init c = (omega arith, (sym (all_none _), refl))

pub gauge_fits-requires : goal.gauge_fits-requires
gauge_fits-requires c =
    record { placed = placed _ _ c.requires c.loop-g-test.true; before = c.loop-g.invariant.1.1 }

pub returns-then-not-gauge_fits : goal.returns-then-not-gauge_fits
returns-then-not-gauge_fits c =
    sym (all-fails _ _ _ c.loop-g-test.true (sym c.gauge_fits.ensures ∙ c.if-not-gauge_fits.true))

pub element_of-above-requires : goal.element_of-above-requires
element_of-above-requires c = placed _ _ c.requires c.loop-g-test.true

pub loop-g-preserved : goal.loop-g-preserved
loop-g-preserved c =
    let inv = c.loop-g.invariant in (
      omega (arith, c.loop-g-test.true),
      (
        sym (all_more _ _ (sym inv.1.0) (sym (c.if-not-gauge_fits.false) ∙ c.gauge_fits.ensures)),
        c.element_of-above.ensures ∙ element-next _ _,
      ),
    )

pub returns : goal.returns
returns c =
    let inv = c.loop-g.invariant in
    let e : c.loop-g.g ≡ c.args.m = omega (arith, inv.0, c.loop-g-test.false) in
    sym (rw e at inv.1.0)
