-- The loop of `pieces_in_use_fit`.
use Prim.Native.Nat.{◌≤◌}
use mathlib.Core.Bool.{true}
use mathlib.Core.Path.{◌≡◌}
use Rattle.fields.specs.Ranges.{all_below}
use Rattle.gauges.specs.Gauges.{curve_at}
use Rattle.gauges.specs.Rules.{top_before, piece_fits}
use Rattle.curve_rules.proofs.pieces_in_use_fit.Given as goal

abbrev pub invariant-loop-j : goal.invariant-loop-j
invariant-loop-j l = (l.j ≤ l.count)
    × ((all_below (piece_fits (curve_at l.table l.at)) l.j ≡ true) × (l.below ≡ top_before (curve_at l.table l.at) l.j))
