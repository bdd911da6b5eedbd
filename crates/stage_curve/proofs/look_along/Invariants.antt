-- The loop of `look_along`: the stage has reached the tops of the pieces that were read before.
use Prim.Native.Nat.{◌-◌, ◌<◌}
use Rattle.rating.specs.Rating.{pieces_of}
use Rattle.rating.proofs.LookLaws.{TopsReached}
use Rattle.gauges.specs.Gauges.{curve_at}
use Rattle.stage_curve.proofs.look_along.Given as goal

abbrev pub invariant-loop-answer : goal.invariant-loop-answer
invariant-loop-answer l = (l.pieces < (curve_at l.table l.at).count) × TopsReached l.stage (pieces_of (curve_at l.table l.at)) l.pieces

abbrev pub decreases-loop-answer : goal.decreases-loop-answer
decreases-loop-answer l = (curve_at l.table l.at).count - l.pieces
