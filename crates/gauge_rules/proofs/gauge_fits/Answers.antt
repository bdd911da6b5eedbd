-- `gauge_fits` meets its contract.
use native.Mathlib.Omega.{arith}
use Rattle.std.proofs.Common.{rules}
use mathlib.Core.Path.{◌≡◌, refl}
use Rattle.std.specs.Prelude.{Option, Some, None}
use Rattle.std.specs.Option.{option_eq}
use Rattle.elements.specs.contracts.KindPartialEq.TheImpl.{eq-value}
use Rattle.elements.specs.declared.Kind.{Kind}
use Rattle.elements.specs.declared.Kind.TheVariants.{Basin, Reach, Dam, Tanks}
use Rattle.elements.specs.Kinds.{dam, same_kind}
use Rattle.gauges.proofs.GaugeLaws.{elements-before}
use Rattle.gauge_rules.proofs.JudgeLaws.{there, judged}
use Rattle.gauge_rules.proofs.gauge_fits.Goals as goal

pub bounds-table-at : goal.bounds-table-at
bounds-table-at c = omega (arith, (there _ _ _ c.requires c.place_of-at.ensures).whole)

pub kind_at-requires : goal.kind_at-requires
kind_at-requires c =
    (omega (arith, c.if-n-element.false, c.requires.placed.elements), omega (arith, c.if-n-element.false, c.if-element-above.false, elements-before _ _ _ c.requires.placed))

pub returns-then-element-above : goal.returns-then-element-above
returns-then-element-above c = let j = judged _ _ _ c.requires c.place_of-at.ensures c.from-element.ensures in search rules

pub returns-then-n-element : goal.returns-then-n-element
returns-then-n-element c = let j = judged _ _ _ c.requires c.place_of-at.ensures c.from-element.ensures in search rules

-- the code's test of a kind is the definition's
dam-equal : (kind : Option Kind) → option_eq (eq-value).it kind dam ≡ same_kind kind dam
unfolding same_kind
dam-equal (Some Basin) = refl
dam-equal (Some Reach) = refl
dam-equal (Some Dam) = refl
dam-equal (Some Tanks) = refl
dam-equal None = refl

pub returns-then-eq : goal.returns-then-eq
returns-then-eq c = let j = judged _ _ _ c.requires c.place_of-at.ensures c.from-element.ensures in let t = dam-equal c.kind_at.result in search rules

pub whole32-requires : goal.whole32-requires
whole32-requires c = omega (arith, (there _ _ _ c.requires c.place_of-at.ensures).whole)

pub curve_fits-requires : goal.curve_fits-requires
curve_fits-requires c = there _ _ _ c.requires c.place_of-at.ensures

pub beta_at-requires : goal.beta_at-requires
beta_at-requires c = there _ _ _ c.requires c.place_of-at.ensures

pub returns-then-not-in_range : goal.returns-then-not-in_range
returns-then-not-in_range c = let j = judged _ _ _ c.requires c.place_of-at.ensures c.from-element.ensures in search rules

pub returns-then-not-curve_fits : goal.returns-then-not-curve_fits
returns-then-not-curve_fits c = let j = judged _ _ _ c.requires c.place_of-at.ensures c.from-element.ensures in search rules

pub returns : goal.returns
returns c = let j = judged _ _ _ c.requires c.place_of-at.ensures c.from-element.ensures in let t = dam-equal c.kind_at.result in search rules
