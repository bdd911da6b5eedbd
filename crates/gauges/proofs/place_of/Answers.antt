-- `place_of` meets its contract.
use native.Mathlib.Omega.{arith}
use Rattle.gauges.specs.Gauges.{gauge_place}
use Rattle.gauges.proofs.GaugeLaws.{size-product}
use Rattle.gauges.proofs.place_of.Goals as goal

pub overflow_mul-result-2 : goal.overflow_mul-result-2
overflow_mul-result-2 c = rw c.gauge_size.ensures (omega (arith, size-product _ _ _ c.requires))

pub overflow_add-result : goal.overflow_add-result
overflow_add-result c = rw c.gauge_size.ensures (omega (arith, size-product _ _ _ c.requires, c.requires.elements))

pub overflow_add-result-2 : goal.overflow_add-result-2
overflow_add-result-2 c = rw c.gauge_size.ensures (omega (arith, size-product _ _ _ c.requires, c.requires.elements))

pub returns : goal.returns
unfolding gauge_place
returns c = rw c.gauge_size.ensures
