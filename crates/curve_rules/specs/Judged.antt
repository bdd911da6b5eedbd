-- Only serves the code: what is known of a curve while rule 7 looks along its pieces.
use Rattle.std.specs.Prelude.{ℕ, ◌≤◌, Bool, true, false, List, ◌≡◌, eqb}
use Rattle.rating.specs.declared.Curve.{Curve}
use Rattle.fields.specs.Ranges.{all_below}
use Rattle.gauges.specs.Gauges.{curve_at}
use Rattle.gauges.specs.Places.{GaugeThere}
use Rattle.gauges.specs.Rules.{top_before, piece_fits, curve_fits}

-- the gauge at a place is there, and its pieces in use are this many, in their range
pub record Counted (table : List ℕ) (at count : ℕ) : Type 0 where
  pub there : GaugeThere table at
  pub least : 1 ≤ count
  pub most : count ≤ 5
  pub counted : count ≡ (curve_at table at).count

-- the pieces in use and the last of their tops keep rule 7
pub record InUseKept (curve : Curve) : Type 0 where
  pub pieces : all_below (piece_fits curve) curve.count ≡ true
  pub last : eqb (top_before curve curve.count) 30001 ≡ true

-- what a look along them decides
pub record InUseJudged (curve : Curve) (fit : Bool) : Type 0 where
  pub kept : fit ≡ true → InUseKept curve
  pub broken : fit ≡ false → curve_fits curve ≡ false
