-- `rate_on_piece` meets its contract.
use Rattle.std.proofs.Common.{rules}
use native.Mathlib.Omega.{arith}
use Rattle.rating.specs.Rating.{on_piece, depth, OffsetFits}
use Rattle.rating.proofs.rate_on_piece.Goals as goal

pub overflow_add-stage : goal.overflow_add-stage
unfolding OffsetFits
overflow_add-stage c = let h = rw c.in-Plus.is at c.requires.1.offset in omega arith

pub discharge_at-requires : goal.discharge_at-requires
unfolding OffsetFits
discharge_at-requires c = let h = rw c.in-Plus.is at c.requires.1.offset in (c.requires.1.factor, omega arith)

pub returns-then-stage-b : goal.returns-then-stage-b
unfolding on_piece depth
returns-then-stage-b c = search rules

pub returns-in-Plus : goal.returns-in-Plus
unfolding on_piece depth
returns-in-Plus c = search rules

pub returns-else-stage-b : goal.returns-else-stage-b
unfolding on_piece depth
returns-else-stage-b c = search rules
