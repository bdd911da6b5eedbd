-- `look_along` meets its contract: the stage has reached the tops of the pieces that were read before.
use native.Mathlib.Omega.{arith}
use Rattle.rating.proofs.RatingLaws.{rating-fits}
use Rattle.rating.proofs.LookLaws.{reached-none}
use Rattle.gauges.specs.Gauges.{gauge_from}
use Rattle.gauges.specs.Looks.{look_on}
use Rattle.stage_curve.proofs.PieceLaws.{curve-fits, few, piece-fits, found, passed}
use Rattle.stage_curve.proofs.look_along.Goals as goal

pub loop-answer-init : goal.loop-answer-init
loop-answer-init c = (omega (arith, (curve-fits _ _ c.requires.1.1).least), reached-none _ _)

pub overflow_add-place-in-loop-answer : goal.overflow_add-place-in-loop-answer
overflow_add-place-in-loop-answer c = omega (arith, few _ _ c.requires.1.1 c.loop-answer.invariant.0, c.requires.0.small)

pub overflow_mul-place : goal.overflow_mul-place
overflow_mul-place c = omega (arith, few _ _ c.requires.1.1 c.loop-answer.invariant.0)

pub overflow_add-pieces : goal.overflow_add-pieces
overflow_add-pieces c = omega (arith, few _ _ c.requires.1.1 c.loop-answer.invariant.0)

pub whole16-requires : goal.whole16-requires
whole16-requires c = omega (arith, few _ _ c.requires.1.1 c.loop-answer.invariant.0, c.requires.0.whole)

pub piece_at-requires : goal.piece_at-requires
piece_at-requires c =
    let l = few _ _ c.requires.1.1 c.loop-answer.invariant.0 in
    (omega (arith, l, c.requires.0.small), omega (arith, l, c.requires.0.whole))

pub rate_on_piece-answer-requires : goal.rate_on_piece-answer-requires
rate_on_piece-answer-requires c = (c.requires.1.0, piece-fits _ _ c.requires.1.1 c.loop-answer.invariant.0 c.piece_at.ensures)

pub with_noise-requires : goal.with_noise-requires
with_noise-requires c =
    let inv = c.loop-answer.invariant in
    let a = found _ _ c.requires.1.1 inv.0 inv.1 c.whole16.ensures.0 c.if-stage-whole16.true c.piece_at.ensures c.rate_on_piece-answer.ensures in
    ((c.requires.0, c.requires.1.1), rw a.0 (rating-fits _ _))

pub returns-then-stage-whole16 : goal.returns-then-stage-whole16
unfolding look_on gauge_from
returns-then-stage-whole16 c =
    let inv = c.loop-answer.invariant in
    let a = found _ _ c.requires.1.1 inv.0 inv.1 c.whole16.ensures.0 c.if-stage-whole16.true c.piece_at.ensures c.rate_on_piece-answer.ensures in
    rw (a.1, ← a.0) c.with_noise.ensures

pub loop-answer-preserved : goal.loop-answer-preserved
loop-answer-preserved c =
    let inv = c.loop-answer.invariant in
    passed _ _ c.requires.1.1 inv.0 inv.1 c.whole16.ensures.0 c.requires.1.0 c.if-stage-whole16.false
