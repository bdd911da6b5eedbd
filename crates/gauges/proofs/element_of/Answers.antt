-- `element_of` meets its contract.
use native.Mathlib.Omega.{arith}
use Rattle.gauges.specs.Gauges.{gauge_from, gauge_at}
use Rattle.gauges.proofs.GaugeLaws.{gauge-there}
use Rattle.gauges.proofs.element_of.Goals as goal

pub bounds-table-place_of : goal.bounds-table-place_of
bounds-table-place_of c = rw c.place_of.ensures (omega (arith, (gauge-there _ _ _ c.requires).whole))

pub returns : goal.returns
unfolding gauge_at gauge_from
returns c = rw (← c.place_of.ensures) c.from.ensures
