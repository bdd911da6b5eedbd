-- Inflows stay within their margins of the inflows in fractions.
use Prim.Native.Nat.{ℕ, zero, suc, ◌*◌}
use native.Mathlib.Nat.{div-mul-le_self, lt-div-mul-add}
use native.Mathlib.Omega.{arith}
use lib.Dec.{eqb-suc-zero}
use Rattle.method.specs.declared.Figures.{Figures}
use Rattle.method.specs.Inflow.{step_inflow, no_inflow, joined_inflow, old_outflow, old_and_new_outflow, reach_inflow, mean_rain_inflow, forecast_inflow}
use Rattle.exact.specs.Exact.{
  ExactFigures,
  exact_step_inflow,
  exact_forecast_inflow,
  exact_nothing,
  exact_sum,
  exact_old_outflow,
  exact_old_and_new_outflow,
  exact_reach_inflow,
}
use Rattle.exact.specs.Margins.{Follows}
use Rattle.exact.proofs.Tracking.{whole-tracks, floor-tracks, sum-tracks, half-tracks}

pub step-inflow-follows : (rain area f : ℕ) → Follows (step_inflow rain area f) (exact_step_inflow rain area f)
unfolding step_inflow exact_step_inflow
step-inflow-follows rain area f =
    record { discharge = floor-tracks (omega arith); variance = whole-tracks 0 0 }

pub forecast-inflow-follows :
    (s c area f lead G : ℕ) → Follows (forecast_inflow s c area f lead G) (exact_forecast_inflow s c area f lead G)
unfolding forecast_inflow mean_rain_inflow exact_forecast_inflow
forecast-inflow-follows s zero area f lead G =
    record { discharge = whole-tracks 0 1; variance = whole-tracks (lead * G) 0 }
forecast-inflow-follows s (suc c) area f lead G =
    record {
      discharge =
          rw (eqb-suc-zero c)
          (floor-tracks
          (omega (
            arith,
            div-mul-le_self (5 * s * area * f) (18 * suc c),
            lt-div-mul-add {a = 5 * s * area * f} {b = 18 * suc c} (omega arith),
          )));
      variance = whole-tracks (lead * G) 0;
    }

pub no-inflow-follows : Follows no_inflow exact_nothing
unfolding no_inflow exact_nothing
no-inflow-follows = record { discharge = whole-tracks 0 0; variance = whole-tracks 0 0 }

pub joined-inflow-follows :
    {x y : Figures} {x* y* : ExactFigures} → Follows x x* → Follows y y* → Follows (joined_inflow x y) (exact_sum x* y*)
unfolding joined_inflow exact_sum
joined-inflow-follows f g =
    record { discharge = sum-tracks f.discharge g.discharge; variance = sum-tracks f.variance g.variance }

old-outflow-follows : {old : Figures} {old* : ExactFigures} → Follows old old* → Follows (old_outflow old) (exact_old_outflow old*)
unfolding old_outflow exact_old_outflow
old-outflow-follows f = record { discharge = f.discharge; variance = whole-tracks 0 0 }

pub old-and-new-follows :
    {old new : Figures} {old* new* : ExactFigures}
    → Follows old old*
    → Follows new new*
    → Follows (old_and_new_outflow old new) (exact_old_and_new_outflow old* new*)
unfolding old_and_new_outflow exact_old_and_new_outflow
old-and-new-follows f g = joined-inflow-follows (old-outflow-follows f) g

pub reach-inflow-follows : {x : Figures} {x* : ExactFigures} → Follows x x* → Follows (reach_inflow x) (exact_reach_inflow x*)
unfolding reach_inflow exact_reach_inflow
reach-inflow-follows f = record { discharge = half-tracks f.discharge; variance = f.variance }
