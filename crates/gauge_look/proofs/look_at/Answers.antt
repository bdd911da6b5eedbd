-- `look_at` meets its contract.
use Prim.Native.Nat.{◌-◌}
use mathlib.Core.Path.{ap, ◌∙◌}
use borrow.Author.Tests.{le-leb}
use native.Mathlib.Omega.{arith}
use Rattle.std.proofs.Common.{rules}
use Rattle.gauges.specs.Looks.{look_on}
use Rattle.gauges.proofs.GaugeLaws.{gauge-there, gauge-stands}
use Rattle.table.proofs.HeldLaws.{gauge-held, gauge-in-use, gauge-known}
use Rattle.gauge_look.specs.GaugeLooks.{judged_look, gauge_look}
use Rattle.gauge_look.proofs.look_at.Goals as goal

pub returns-then-k-eq0 : goal.returns-then-k-eq0
unfolding gauge_look
returns-then-k-eq0 c = search rules

pub returns-then-m-k : goal.returns-then-m-k
unfolding gauge_look
returns-then-m-k c = search rules

pub place_of-requires : goal.place_of-requires
place_of-requires c = gauge-in-use _ c.requires.0 _ (omega (arith, c.if-k-eq0.false, c.if-m-k.false))

pub look_along-requires : goal.look_along-requires
look_along-requires c =
    let g = gauge-known _ c.requires.0 (c.args.k - 1) (omega (arith, c.if-k-eq0.false, c.if-m-k.false)) in
    (rw c.place_of.ensures (gauge-there _ _ _ g.placed), (c.requires.1, rw (gauge-stands _ _ _ c.place_of.ensures) g.bounds))

pub returns : goal.returns
unfolding gauge_look
returns c =
    let held = gauge-held _ c.requires.0 (c.args.k - 1) (omega (arith, c.if-k-eq0.false, c.if-m-k.false)) in
    let gauge = gauge-stands _ _ _ c.place_of.ensures ∙ held in
    rw (← c.requires.0.gauges, le-leb 1 c.args.k (omega (arith, c.if-k-eq0.false)), le-leb _ _ c.if-m-k.false)
    (c.judge_look.ensures ∙ ap judged_look (c.look_along.ensures ∙ ap (λ gauge. look_on gauge c.args.stage) gauge))
