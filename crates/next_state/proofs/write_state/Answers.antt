-- `write_state` meets its contract.
use Prim.Native.Nat.{◌<◌}
use mathlib.Core.Path.{refl}
use native.Mathlib.Omega.{arith}
use Rattle.method.specs.Inflow.{no_inflow}
use Rattle.answer_space.specs.Places.{figures_at}
use Rattle.table.specs.InUse.{table_in}
use Rattle.elements.specs.Kinds.{basin_of}
use Rattle.record.proofs.RecordLaws.{kind-read, rain-there}
use Rattle.table.proofs.CountLaws.{count_none, count-more}
use Rattle.state.proofs.StateLaws.{changed-none}
use Rattle.next_state.proofs.WriteLaws.{written-again, written-steps, written-done}
use Rattle.next_state.proofs.write_state.Goals as goal

pub loop-i-init : goal.loop-i-init
loop-i-init c = (omega arith, ((count_none basin_of _, omega arith), changed-none _ _))

pub put_step-requires : goal.put_step-requires
put_step-requires c =
    let p = c.requires in
    let used : c.loop-i.i < (table_in c.args.table.now).elements = omega (arith, p.elements) in
    let kind = kind-read _ _ used c.kind_at-kind.ensures in
    (omega (arith, p.fits.bounds.elements_most), λ e. rain-there _ _ p.kept _ used kind c.loop-i.invariant.1.0.0 e)

pub loop-i-preserved : goal.loop-i-preserved
unfolding figures_at no_inflow
loop-i-preserved c =
    let inv = c.loop-i.invariant.1 in
    let used : c.loop-i.i < (table_in c.args.table.now).elements = omega (arith, c.requires.elements) in
    let is = c.kind_at-kind.ensures in (
      omega arith,
      (
        (count-more basin_of _ _ inv.0.0 c.basin_of-b.ensures.0 (kind-read _ _ used is), omega (arith, inv.0.1, c.basin_of-b.ensures.1)),
        written-again _ _ _ _ _ used inv.1 is inv.0.0 refl c.put_step.ensures,
      ),
    )

pub overflow_add-state : goal.overflow_add-state
overflow_add-state c =
    omega (arith, written-steps _ _ _ _ c.loop-i.i c.loop-i.invariant.1.1, c.requires.steps)

pub returns : goal.returns
returns c =
    written-done _ _ _ _ _ _ (omega (arith, c.requires.elements)) c.loop-i.invariant.1.1 (written-steps _ _ _ _ _ c.loop-i.invariant.1.1)
