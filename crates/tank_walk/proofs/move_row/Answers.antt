-- `move_row` meets its contract.
use native.Mathlib.Omega.{arith}
use Rattle.tank_walk.proofs.PutLaws.{row-moved}
use Rattle.tank_walk.proofs.move_row.Goals as goal

pub returns : goal.returns
returns c =
    let h = c.copy_within.ensures.by_index in
    row-moved _ _ _ _ (λ k l. h.1 k _ l) (λ k l. h.2 k _ (omega arith)) _ (λ k l m. h.0 k _ l (omega arith))
