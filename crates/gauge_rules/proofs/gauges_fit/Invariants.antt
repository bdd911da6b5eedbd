-- The loop of `gauges_fit`.
use Prim.Native.Nat.{◌≤◌}
use mathlib.Core.Bool.{true}
use mathlib.Core.Path.{◌≡◌}
use Rattle.fields.specs.Ranges.{all_below}
use Rattle.elements.specs.Elements.{element_at}
use Rattle.gauges.specs.Gauges.{gauge_at}
use Rattle.gauges.specs.Rules.{element_before, gauge_fits}
use Rattle.gauge_rules.proofs.gauges_fit.Given as goal

abbrev pub invariant-loop-g : goal.invariant-loop-g
invariant-loop-g l = (l.g ≤ l.m) × ((all_below (gauge_fits l.n (element_at l.table) (gauge_at l.table l.n)) l.g ≡ true) × (l.above ≡ element_before (gauge_at l.table l.n) l.g))
