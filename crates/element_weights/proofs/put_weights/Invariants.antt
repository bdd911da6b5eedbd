-- The loop of `put_weights`.
use Prim.Native.Nat.{ℕ, ◌≤◌, ◌<◌}
use mathlib.Core.Path.{◌≡◌}
use lib.ListN.{length, get_or}
use Rattle.table.specs.InUse.{table_in}
use Rattle.element_weights.specs.Weights.{element_weight}
use Rattle.element_weights.proofs.put_weights.Given as goal

abbrev pub invariant-loop-i : goal.invariant-loop-i
invariant-loop-i l = (l.i ≤ l.n) × ((length l.weights ≡ length l.initial.weights) × ((k : ℕ) → k < l.i → get_or l.weights k 0 ≡ element_weight (table_in l.table) k))
