-- `start_on` meets its contract.
use Prim.Native.Nat.{◌+◌, ◌≤◌, ◌<◌}
use mathlib.Core.Path.{◌≡◌}
use native.Mathlib.Omega.{arith}
use Rattle.sizes.specs.Sizes.{most_places}
use Rattle.table.specs.KindCounts.{extra_before}
use Rattle.table.specs.InUse.{table_in}
use Rattle.table.proofs.CountLaws.{extra-none, extra-read, extra-rise}
use Rattle.table.proofs.HeldLaws.{element-there, tanks-known}
use Rattle.state.proofs.StateLaws.{first-none, first-again, started-done}
use Rattle.first_values.proofs.start_on.Goals as goal
use Rattle.first_values.proofs.start_on.Goals.{After-first_figures}

-- the tanks with this element's
more :
    (c : After-first_figures)
    → extra_before (table_in c.args.table.now) c.loop-i.i + c.extra_of-extra.result
    ≡ extra_before (table_in c.args.table.now) (c.loop-i.i + 1)
more c = extra-read _ _ (omega (arith, c.requires.1)) c.extra_of-extra.ensures

-- all have places
few : (c : After-first_figures) → c.loop-i.x + c.extra_of-extra.result ≤ most_places
few c =
    let t = table_in c.args.table.now in
    omega (arith, more c, c.loop-i.invariant.0.1, c.requires.1, c.requires.0.bounds.places_most, extra-rise t (c.loop-i.i + 1) t.elements (omega (arith, c.requires.1)))

pub loop-i-init : goal.loop-i-init
loop-i-init c = ((omega arith, omega (arith, extra-none (table_in c.args.table.now))), first-none _ _)

pub extra_of-extra-requires : goal.extra_of-extra-requires
extra_of-extra-requires c =
    let used : c.loop-i.i < (table_in c.args.table.now).elements = omega (arith, c.requires.1) in
    (element-there _ c.requires.0 used, λ k. omega (arith, tanks-known _ c.requires.0 used k))

pub put_tanks-requires : goal.put_tanks-requires
put_tanks-requires c = few c

pub overflow_add-x : goal.overflow_add-x
overflow_add-x c = omega (arith, few (goal.at.overflow_add-x c).After-first_figures)

pub loop-i-preserved : goal.loop-i-preserved
loop-i-preserved c =
    let inv = c.loop-i.invariant in (
      (omega arith, omega (arith, more (goal.at.loop-i-preserved c).After-first_figures, inv.0.1)),
      first-again _ _ _ (omega (arith, c.requires.1)) _ c.element_at-element.ensures c.requires.1 inv.0.1 c.extra_of-extra.ensures c.first_figures.ensures inv.1 c.put_tanks.ensures c.put_first.ensures,
    )

pub returns : goal.returns
returns c = started-done _ _ _ c.requires.1 (omega arith) c.loop-i.invariant.1
