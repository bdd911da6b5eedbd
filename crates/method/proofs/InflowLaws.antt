-- Laws of the inflow from rain, and of the sums of what drains in.
use Prim.Native.Nat.{ℕ, ◌*◌}
use mathlib.Core.Bool.{Bool, true, false, cond}
use mathlib.Core.Path.{◌≡◌, refl, ap, ◌∙◌}
use native.Mathlib.Nat.{add_assoc, add_comm, zero-mul, zero-div}
use native.Mathlib.Omega.{arith}
use lib.Dec.{eqb}
use Rattle.method.specs.declared.Figures.{Figures}
use Rattle.method.specs.Figures.{FiguresFit}
use Rattle.method.specs.Inflow.{joined_inflow, old_outflow, old_and_new_outflow, mean_rain_inflow}

-- no rain brings no inflow
pub no-rain-inflow : (c area f : ℕ) → mean_rain_inflow 0 c area f ≡ 0
unfolding mean_rain_inflow
no-rain-inflow c area f = rw (zero-mul area, zero-mul f, zero-div (18 * c)) (go (eqb c 0))
  where
    go : (none : Bool) → ◌≡◌ {A = ℕ} (cond none 0 0) 0
    go true = refl
    go false = refl

-- old figures added and then new ones, and the other way round
joined-assoc : (f g h : Figures) → joined_inflow (joined_inflow f g) h ≡ joined_inflow f (joined_inflow g h)
unfolding joined_inflow
joined-assoc f g h = simp add_assoc refl

joined-comm : (f g : Figures) → joined_inflow f g ≡ joined_inflow g f
unfolding joined_inflow
joined-comm f g =
    rw (
      add_comm f.discharge.0 g.discharge.0,
      add_comm f.discharge_margin.0 g.discharge_margin.0,
      add_comm f.variance.0 g.variance.0,
      add_comm f.variance_margin.0 g.variance_margin.0,
    )

module _ (f old new : Figures) where
  pub old-then-new : joined_inflow (joined_inflow f (old_outflow old)) new ≡ joined_inflow f (old_and_new_outflow old new)
  unfolding old_and_new_outflow
  old-then-new = joined-assoc f (old_outflow old) new

  pub new-then-old : joined_inflow (joined_inflow f new) (old_outflow old) ≡ joined_inflow f (old_and_new_outflow old new)
  unfolding old_and_new_outflow
  new-then-old = joined-assoc f new (old_outflow old) ∙ ap (joined_inflow f) (joined-comm new (old_outflow old))

pub old-outflow-fits : {old : Figures} → FiguresFit old → FiguresFit (old_outflow old)
unfolding old_outflow
old-outflow-fits f =
    record { discharge = f.discharge; discharge_margin = f.discharge_margin; variance = omega arith; variance_margin = omega arith }
