-- The whole-number method stays within its margins of the run in fractions.
use Prim.Native.Nat.{ℕ, ◌+◌, ◌≤◌}
use mathlib.Core.List.{List}
use mathlib.Core.Path.{◌≡◌}
use native.Mathlib.Omega.{arith}
use Rattle.refusal.specs.Answers.{accepted}
use Rattle.units.specs.Units.{C, S}
use Rattle.units.specs.declared.Discharge.{Discharge}
use Rattle.weighting.specs.declared.Estimate.{Estimate}
use Rattle.method.specs.declared.Figures.{Figures}
use Rattle.rating.specs.declared.Piece.{Piece}
use Rattle.weighting.specs.Estimates.{estimate}
use Rattle.method.specs.Figures.{discharge}
use Rattle.weighting.specs.Weight.{weight}
use Rattle.weighting.specs.Blend.{blended}
use Rattle.method.specs.Inflow.{step_inflow, no_inflow, joined_inflow, old_and_new_outflow, reach_inflow, forecast_inflow}
use Rattle.method.specs.Routing.{routed_discharge, routed}
use Rattle.rating.specs.Rating.{rated}
use Rattle.method.specs.Correction.{corrected}
use Rattle.exact.specs.Fraction.{Fraction, whole, ◌⊗◌, ◌≼◌, Within}
use Rattle.exact.specs.Series.{F}
use Rattle.exact.specs.Exact.{ExactFigures, exact_blend, exact_routed, exact_corrected, exact_rated, exact_step_inflow, exact_forecast_inflow, exact_nothing, exact_sum, exact_old_and_new_outflow, exact_reach_inflow}
use Rattle.exact.specs.Margins.{Tracks, Follows}
use Rattle.exact.proofs.Tracking.{whole-tracks}
use Rattle.exact.proofs.Weights.{Share, share, share-within, share-least, share-most}
use Rattle.exact.proofs.WeightNear.{weight-share}
use Rattle.exact.proofs.BlendNear.{blend-tracks}
use Rattle.exact.proofs.CorrectionNear.{corrected-follows}
use Rattle.exact.proofs.RatingNear.{Answered, rated-tracks}
use Rattle.exact.proofs.InflowNear.{step-inflow-follows, forecast-inflow-follows, no-inflow-follows, joined-inflow-follows, old-and-new-follows, reach-inflow-follows}
use Rattle.exact.proofs.RoutingNear.{routed-follows}
use Rattle.exact.proofs.MarginGrowth.{blend-growth}

-- the weight is within 3 of S × F, and F is from 0 to 1
pub record WeightNear (T lag : ℕ) : Type 0 where
  pub near : Within (weight T lag) (whole S ⊗ F T lag) 3
  pub least : whole 0 ≼ F T lag
  pub most : F T lag ≼ whole 1

pub weight-near : (T lag : ℕ) → 1 ≤ T → T ≤ lag → lag ≤ 60000 → WeightNear T lag
weight-near T lag t l m = record { near = share-within h; least = share-least h; most = share-most h }
  where
    h : Share (weight T lag) 3 (F T lag)
    h = weight-share T lag l (omega arith)

-- a blend by a weight near a fraction tracks the blend in fractions
pub blend-near :
    {w g : ℕ} {f : Fraction} {x y : Estimate} {x* y* : Fraction}
    → w ≤ S
    → Within w (whole S ⊗ f) g
    → whole 0 ≼ f
    → f ≼ whole 1
    → Tracks x x*
    → Tracks y y*
    → Tracks (blended w g x y) (exact_blend f x* y*)
blend-near most near least below t u = blend-tracks (share most near least below) t u

-- a correction by a reading follows the correction in fractions
pub correction-near :
    {R z : ℕ} {z* : Fraction} {x : Figures} {x* : ExactFigures}
    → 1 ≤ R
    → Tracks (estimate z 1) z*
    → Follows x x*
    → Follows (corrected R z x) (exact_corrected R z* x*)
correction-near = corrected-follows

-- where the curve gives z, it gives a fraction too, and z is within 1 of it
pub record RatingNear (h : ℕ) (pieces : List Piece) (z : Discharge) : Type 0 where
  pub exact : Fraction
  pub same : exact_rated h pieces ≡ accepted exact
  pub near : Tracks (estimate z.0 1) exact

pub rating-near : (h : ℕ) (pieces : List Piece) {z : Discharge} → rated h pieces ≡ accepted z → RatingNear h pieces z
rating-near h pieces {z} e = go (rated-tracks h pieces e)
  where
    go : Answered z (exact_rated h pieces) → RatingNear h pieces z
    go a = record { exact = a.exact; same = a.same; near = a.near }

-- a basin's inflow of a step follows the unrounded one
pub step-inflow-near : (rain area f : ℕ) → Follows (step_inflow rain area f) (exact_step_inflow rain area f)
step-inflow-near = step-inflow-follows

-- so does a basin's inflow of a forecast, also where no step has come in (c is 0)
pub forecast-inflow-near :
    (s c area f lead G : ℕ) → Follows (forecast_inflow s c area f lead G) (exact_forecast_inflow s c area f lead G)
forecast-inflow-near = forecast-inflow-follows

-- where nothing drains in, both are 0
pub no-inflow-near : Follows no_inflow exact_nothing
no-inflow-near = no-inflow-follows

-- sums of inflows follow the sums in fractions
pub joined-inflow-near :
    {x y : Figures} {x* y* : ExactFigures} → Follows x x* → Follows y y* → Follows (joined_inflow x y) (exact_sum x* y*)
joined-inflow-near = joined-inflow-follows

-- and so does what an element lets out of its old and its new figures
pub old-and-new-near :
    {old new : Figures} {old* new* : ExactFigures}
    → Follows old old*
    → Follows new new*
    → Follows (old_and_new_outflow old new) (exact_old_and_new_outflow old* new*)
old-and-new-near = old-and-new-follows

-- and a reach's inflow from the sums of these, half of the discharges, rounded down
pub reach-inflow-near : {x : Figures} {x* : ExactFigures} → Follows x x* → Follows (reach_inflow x) (exact_reach_inflow x*)
reach-inflow-near = reach-inflow-follows

-- an element's move follows the move in fractions
pub routing-near :
    (T lag W : ℕ) {inflow old : Figures} {inflow* old* : ExactFigures}
    → 1 ≤ T
    → T ≤ lag
    → lag ≤ 60000
    → Follows inflow inflow*
    → Follows old old*
    → Follows (routed (weight T lag) W inflow old) (exact_routed (F T lag) W inflow* old*)
routing-near T lag W t l m i o = routed-follows W (weight-share T lag l (omega arith)) i o

-- first values are exact
pub first-near : (n : ℕ) → Tracks (estimate n 0) (whole n)
first-near n = whole-tracks n 0

-- a blend of numbers within the ceiling adds at most 15 to the larger margin
pub margin-growth :
    (w m : ℕ) (x y : Estimate)
    → w ≤ S
    → x.value ≤ C
    → y.value ≤ C
    → x.margin ≤ m
    → y.margin ≤ m
    → m ≤ 166_666_666
    → (blended w 3 x y).margin ≤ m + 15
margin-growth = blend-growth

-- and so does an element's move, to the larger margin of its discharge and its inflow
pub routing-margin-growth :
    (H m : ℕ) (inflow old : Figures)
    → H ≤ S
    → (discharge inflow).value ≤ C
    → (discharge old).value ≤ C
    → (discharge inflow).margin ≤ m
    → (discharge old).margin ≤ m
    → m ≤ 166_666_666
    → (routed_discharge H inflow old).margin ≤ m + 15
unfolding routed_discharge
routing-margin-growth H m inflow old most vi vo mi mo small =
    blend-growth H m (discharge old) (discharge inflow) most vo vi mo mi small
