-- `size_fits` meets its contract.
use Prim.Native.Nat.{◌*◌, ◌≤◌}
use native.Mathlib.Nat.{mul-le-mul}
use native.Mathlib.Omega.{arith}
use Rattle.gauges.proofs.GaugeLaws.{size-bounds}
use Rattle.table.specs.Tables.{table_of}
use Rattle.table.specs.Rules.{size_fits}
use Rattle.table.proofs.size_fits.Goals as goal

-- the bytes of all gauges are few
few : (c : goal.After-wide-2) → c.gauge_size.result * c.wide-2.result ≤ 12288
few c =
    let size : c.gauge_size.result ≤ 48 = rw c.gauge_size.ensures (size-bounds _ c.requires).1 in
    let gauges : c.wide-2.result ≤ 256 = omega (arith, c.wide-2.ensures.1) in
    mul-le-mul size gauges

pub overflow_mul-result-2 : goal.overflow_mul-result-2
overflow_mul-result-2 c = omega (arith, few c)

pub overflow_add-result-2 : goal.overflow_add-result-2
overflow_add-result-2 c = omega (arith, few c, c.wide.ensures.1)

pub returns : goal.returns
unfolding size_fits table_of
returns c =
    rw (c.whole32.ensures.0, c.wide.ensures.0, c.gauge_size.ensures, c.wide-2.ensures.0)
