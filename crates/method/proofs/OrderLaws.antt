-- More rain and more water: inflow, move and correction keep the order of discharges, and no variance depends on one.
use Prim.Native.Nat.{ℕ, ◌+◌, ◌-◌, ◌*◌, ◌/◌, ◌≤◌}
use mathlib.Core.Bool.{Bool, true, false, cond}
use mathlib.Core.Path.{refl, ap}
use native.Mathlib.Nat.{le_refl, add-le-add, mul-le-mul_left, mul-le-mul_right}
use lib.Dec.{eqb}
use Rattle.units.specs.Units.{S}
use Rattle.weighting.specs.Blend.{blended}
use Rattle.weighting.proofs.OrderLaws.{quotient-order, mean-order}
use Rattle.method.specs.declared.Figures.{Figures}
use Rattle.method.specs.Inflow.{step_inflow, joined_inflow, old_outflow, old_and_new_outflow, reach_inflow, mean_rain_inflow, forecast_inflow}
use Rattle.method.specs.Routing.{routed_discharge, old_variance_part, inflow_variance_part, routed_variance, routed}
use Rattle.method.specs.Correction.{gain, corrected_discharge, corrected_variance, corrected}
use Rattle.method.specs.AtLeast.{AtLeast}

pub as-much : (f : Figures) → AtLeast f f
as-much f = record { discharge = le_refl _; variance = refl }

-- ---- inflow

rain-order : (area f : ℕ) {rain rain* : ℕ} → rain ≤ rain* → 5 * rain * area * f ≤ 5 * rain* * area * f
rain-order area f l = mul-le-mul_right f (mul-le-mul_right area (mul-le-mul_left 5 l))

pub more-step-inflow : (area f : ℕ) {rain rain* : ℕ} → rain ≤ rain* → AtLeast (step_inflow rain area f) (step_inflow rain* area f)
unfolding step_inflow
more-step-inflow area f l = record { discharge = quotient-order 18 (rain-order area f l); variance = refl }

-- the mean over the same count of rains
mean-rain-order : (c area f : ℕ) {s s* : ℕ} → s ≤ s* → mean_rain_inflow s c area f ≤ mean_rain_inflow s* c area f
unfolding mean_rain_inflow
mean-rain-order c area f l = go (eqb c 0) (quotient-order (18 * c) (rain-order area f l))
  where
    go : (none : Bool) {a b : ℕ} → a ≤ b → cond none 0 a ≤ cond none 0 b
    go true l = le_refl 0
    go false l = l

pub more-forecast-inflow :
    (c area f lead G : ℕ) {s s* : ℕ} → s ≤ s* → AtLeast (forecast_inflow s c area f lead G) (forecast_inflow s* c area f lead G)
unfolding forecast_inflow
more-forecast-inflow c area f lead G l = record { discharge = mean-rain-order c area f l; variance = refl }

pub more-joined : {x x* y y* : Figures} → AtLeast x x* → AtLeast y y* → AtLeast (joined_inflow x y) (joined_inflow x* y*)
unfolding joined_inflow
more-joined p q = record { discharge = add-le-add p.discharge q.discharge; variance = rw (p.variance, q.variance) }

more-old-outflow : {old old* : Figures} → AtLeast old old* → AtLeast (old_outflow old) (old_outflow old*)
unfolding old_outflow
more-old-outflow p = record { discharge = p.discharge; variance = refl }

pub more-outflow :
    {old old* new new* : Figures} → AtLeast old old* → AtLeast new new* → AtLeast (old_and_new_outflow old new) (old_and_new_outflow old* new*)
unfolding old_and_new_outflow
more-outflow p q = more-joined (more-old-outflow p) q

pub more-reach-inflow : {above above* : Figures} → AtLeast above above* → AtLeast (reach_inflow above) (reach_inflow above*)
unfolding reach_inflow
more-reach-inflow p = record { discharge = quotient-order 2 p.discharge; variance = p.variance }

-- ---- the move

pub more-routed :
    (H W : ℕ) {inflow inflow* old old* : Figures}
    → AtLeast inflow inflow*
    → AtLeast old old*
    → AtLeast (routed H W inflow old) (routed H W inflow* old*)
unfolding routed routed_discharge routed_variance old_variance_part inflow_variance_part blended
more-routed H W p q = record { discharge = mean-order refl q.discharge p.discharge; variance = rw (p.variance, q.variance) }

-- ---- the correction

-- equal variances and one noise give the same gain
pub more-corrected : (R z : ℕ) {x x* : Figures} → AtLeast x x* → AtLeast (corrected R z x) (corrected R z x*)
unfolding corrected corrected_discharge corrected_variance blended
more-corrected R z p =
    record {
      discharge = mean-order (ap (λ (P : ℕ). S - gain R P) p.variance) p.discharge (le_refl z);
      variance = ap (λ (P : ℕ). P * R / (P + R)) p.variance;
    }
