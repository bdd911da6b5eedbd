-- The loop of `series_weight`: the turns that are left bring h to the weight.
use Prim.Native.Nat.{◌≤◌}
use mathlib.Core.Path.{◌≡◌}
use Rattle.units.specs.Units.{S}
use Rattle.weighting.specs.Weight.{turned, weight}
use Rattle.weighting.proofs.weight.series_weight.Given as goal

abbrev pub invariant-loop-m : goal.invariant-loop-m
invariant-loop-m l = (l.h ≤ S) × (turned l.step l.lag l.h l.m ≡ weight l.step l.lag)
